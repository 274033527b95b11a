-- Helps for the proofs, which no public clause cites.
pub mod TokenLists
pub mod Forms
pub mod Cuts
pub mod NameParts
pub mod Machine
pub mod Given
pub mod TakenTokens
pub mod Parsed
pub mod Counts
