mod LogLemmas
mod ItemLemmas
mod ReadLemmas
mod SpellingLemmas
mod PrintLemmas
mod DecideLemmas
pub mod CallerLemmas
