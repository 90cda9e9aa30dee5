pub mod Name
pub mod Refusal
pub mod Containment
pub mod Tree
pub use Rattle.pm_base.specs.Class
pub use Rattle.pm_base.specs.Names
