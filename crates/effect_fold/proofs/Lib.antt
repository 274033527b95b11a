mod FoldLemmas
pub mod CallerLemmas
