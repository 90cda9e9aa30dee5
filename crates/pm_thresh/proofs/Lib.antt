pub mod CrossingLemmas
pub mod WatchLemmas
