pub mod Format
pub mod Rows
pub mod Item
pub mod Reading
pub mod Stored
pub mod Laws
