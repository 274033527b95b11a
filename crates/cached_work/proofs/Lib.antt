mod CachedLemmas
mod CachedWork
