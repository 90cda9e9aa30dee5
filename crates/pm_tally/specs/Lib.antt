pub mod Tally
pub mod Counting
pub mod Taking
pub mod Finishing
pub mod Outcome
pub mod Ends
pub mod Plain
