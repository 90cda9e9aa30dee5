pub mod Cells
pub mod Allowed
pub mod Comes
pub mod Change
pub mod Rules
pub mod Laws
