-- What only private functions and proofs say.
pub mod Rows
pub mod Orders
pub mod Counts
pub mod Domains
pub mod Moves
