pub mod MomentLemmas
mod CallsLemmas
mod MadeLemmas
