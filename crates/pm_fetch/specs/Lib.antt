pub mod Asked
pub mod Replies
pub mod Telling
pub mod Exchanged
pub mod Faults
pub mod Rows
pub mod Ends
