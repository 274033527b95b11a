-- What only private functions and proofs say.
pub mod Kept
pub mod ToldRules
