mod UnreadLemmas
pub mod CallerLemmas
