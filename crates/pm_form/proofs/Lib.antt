pub mod ReadLemmas
pub mod WriteLemmas
pub mod FormLemmas
pub mod NameLemmas
pub mod KeptLemmas
