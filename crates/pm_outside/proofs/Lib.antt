pub mod LineLemmas
pub mod FeedLemmas
pub mod LinesLemmas
mod CourierLemmas
