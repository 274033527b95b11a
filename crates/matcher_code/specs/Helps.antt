-- What the checker, the run and the making of code keep: helps for proofs, which no public clause cites.
pub mod Checks
pub mod Targets
pub mod NodePlaces
pub mod Ends
pub mod Steps
pub mod Runs
pub mod Compared
pub mod Kept
