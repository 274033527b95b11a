-- What only private functions and proofs say.
pub mod Tokens
pub mod Fits
pub mod Parts
pub mod Given
pub mod Fronts
