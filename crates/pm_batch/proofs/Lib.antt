pub mod ReadingLemmas
pub mod PhaseLemmas
pub mod TickLemmas
pub mod AnewLemmas
pub mod LawLemmas
pub mod AnswerLemmas
pub mod NumberLemmas
