-- What only private functions and proofs say.
pub mod Rules
pub mod Sides
pub mod Lines
