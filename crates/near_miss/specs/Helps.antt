-- What the steps see and give: helps for proofs, which no public clause cites.
pub mod Codes
pub mod MadeParts
pub mod Pushed
pub mod Rows
