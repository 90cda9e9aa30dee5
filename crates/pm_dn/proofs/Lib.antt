pub mod PieceLemmas
pub mod PartLemmas
pub mod NameLemmas
pub mod PrefixLemmas
pub mod TreeLemmas
pub mod NumberLemmas
pub mod ClassLemmas
pub mod ObjectLemmas
