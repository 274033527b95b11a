-- What only private functions and proofs say.
pub mod Steps
pub mod Rounds
pub mod Wants
pub mod Trees
pub mod Rows
