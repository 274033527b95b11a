-- Helps for proofs: what a fold keeps. No public clause cites what stands in them but by name.
pub mod Progress
