pub mod Pieces
pub mod Lines
pub mod WholeLines
pub mod Moment
pub mod Number
pub mod Class
pub mod Code
pub mod Names
