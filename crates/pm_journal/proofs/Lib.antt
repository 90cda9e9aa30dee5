pub mod ImageLemmas
pub mod ItemsLemmas
pub mod ListLemmas
mod StagingLemmas
mod AppendingLemmas
mod OpeningLemmas
mod ReadingLemmas
mod NextLemmas
pub mod TiedLemmas
