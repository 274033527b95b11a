-- What only private functions and proofs say.
pub mod Sessions
pub mod Tallies
