pub mod Reading
pub mod OpenCounts
pub mod Entries
pub mod Phases
pub mod OpenTick
pub mod Answer
pub mod OpenEvents
pub mod Laws
