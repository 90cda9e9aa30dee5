pub mod BetweenLemmas
pub mod BearsLemmas
pub mod TurnLemmas
pub mod SubsLemmas
