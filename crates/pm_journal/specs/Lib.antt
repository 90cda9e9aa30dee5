pub mod Items
pub mod Lists
pub mod Journal
pub mod Opening
pub mod Reading
pub mod Appending
pub mod Refusals
