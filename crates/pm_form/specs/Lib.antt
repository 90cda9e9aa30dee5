pub mod Form
pub mod Values
pub mod Lists
pub mod Objects
pub mod Says
pub mod Names
