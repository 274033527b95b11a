-- What only private functions and proofs say.
pub mod WordTexts
pub mod ServedStreams
pub mod Opened
