pub mod CellLemmas
pub mod NumberLemmas
pub mod CatalogueLemmas
pub mod BreaksLemmas
pub mod FamilyLemmas
pub mod TextLemmas
pub mod RegisteredLemmas
