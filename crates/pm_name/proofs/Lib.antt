pub mod CalendarLemmas
pub mod FileNameLemmas
pub mod DayLemmas
pub mod PartLemmas
pub mod ReadingLemmas
pub mod NameLemmas
pub mod RefusalLemmas
