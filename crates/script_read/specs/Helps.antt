-- What only private functions and proofs say.
pub mod Given
pub mod Ends
pub mod Checked
pub mod Asks
