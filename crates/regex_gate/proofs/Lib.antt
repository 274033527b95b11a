pub mod CallerLemmas
pub mod FoundLemmas
pub mod SearchLemmas
