-- What only private functions and proofs say.
pub mod Untold
pub mod Ended
pub mod Asked
