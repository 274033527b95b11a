pub mod DecidedLemmas
mod CacheLemmas
mod OpeningLemmas
pub mod CallerLemmas
