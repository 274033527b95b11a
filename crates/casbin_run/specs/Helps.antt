-- What the steps of a run read, gather and push: helps for proofs, which no public clause cites.
pub mod Loads
pub mod Tasks
pub mod TaskRuns
pub mod Demos
pub mod Shares
