-- What answering, gathering and pushing come to: helps for proofs, which no public clause of a run cites.
pub mod GatheredLines
pub mod TaskSteps
pub mod ExplainedLines
pub mod ShippedItems
pub mod FollowedPackets
pub mod Items
