pub mod Bears
pub mod Adding
pub mod Wish
pub mod Turn
pub mod Giving
pub mod Refusals
pub mod Round
