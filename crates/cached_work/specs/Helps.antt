-- What answering by way of a cache comes to: helps for proofs, which no public clause of a run cites.
pub mod CacheSteps
