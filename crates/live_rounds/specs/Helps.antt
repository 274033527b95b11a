-- What only private functions and proofs say.
pub mod Asked
pub mod Behind
pub mod MergedItems
pub mod Posts
pub mod Learned
pub mod Passed
pub mod Turns
