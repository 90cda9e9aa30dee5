pub mod LoopLemmas
pub mod FirstLemmas
