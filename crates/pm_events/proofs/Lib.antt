pub mod EventLineLemmas
pub mod EventLemmas
pub mod SameNamesLemmas
pub mod SlotTableLemmas
pub mod LastWordLemmas
pub mod ReaderLemmas
pub mod BatchLineLemmas
