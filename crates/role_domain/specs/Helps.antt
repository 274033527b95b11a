-- What only private functions and proofs say.
pub mod Tallies
pub mod OwnRows
pub mod Turns
pub mod Kept
pub mod Walks
pub mod Copies
