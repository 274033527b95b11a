pub mod CallerLemmas
pub mod PieceLemmas
pub mod EntryLemmas
