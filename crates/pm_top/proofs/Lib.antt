pub mod AskingLemmas
pub mod SessionLemmas
pub mod LawLemmas
pub mod StreamLemmas
pub mod RunLemmas
