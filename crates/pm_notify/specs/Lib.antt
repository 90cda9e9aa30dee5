pub mod Notices
pub mod Kept
pub mod Numbered
pub mod Tellable
pub mod Ends
pub mod Laws
