-- What only private functions and proofs say.
pub mod Signs
pub mod Heads
pub mod Marked
