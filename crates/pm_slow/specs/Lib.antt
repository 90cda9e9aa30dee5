pub mod Book
pub mod First
pub mod Seen
pub mod Items
