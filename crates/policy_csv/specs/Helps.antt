-- What only private functions and proofs say.
pub mod Entries
pub mod Filled
