pub mod Cell
pub mod Def
pub mod Catalogue
pub mod Registered
