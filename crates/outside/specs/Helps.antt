-- Helps for proofs: what the parts of the forms in memory give to each other, and how a text and a log are held. No public clause cites them.
pub mod Copies
pub mod Entries
pub mod Held
pub mod Fetched
