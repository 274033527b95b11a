pub mod CallerLemmas
pub mod BlankLemmas
mod FullLemmas
pub mod ReaderLemmas
