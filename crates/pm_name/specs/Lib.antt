pub mod Calendar
pub mod FileName
pub mod Kind
pub mod CalendarDate
pub mod Name
pub mod Reading
