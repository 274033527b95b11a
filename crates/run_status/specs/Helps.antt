-- What a message is pushed in: helps for proofs, which no public clause cites.
pub mod Pieces
