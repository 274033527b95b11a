-- What the steps of a decision see and give: helps for proofs, which no public clause cites.
pub mod Parts
pub mod Asked
pub mod ReachedNames
pub mod Outcomes
pub mod Firsts
pub mod KeptPlans
pub mod LeftOut
pub mod FoundRows
pub mod Covers
pub mod PlainParts
