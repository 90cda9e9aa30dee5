pub mod Stored
pub mod Between
pub mod Ledger
pub mod Refusals
