-- What only private functions and proofs say.
pub mod Looks
pub mod Reads
pub mod Waits
