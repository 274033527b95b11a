-- Helps for proofs: what is kept for a pattern. No public clause cites them.
pub mod Dfas
pub mod Kept
