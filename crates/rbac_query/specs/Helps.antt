-- What only private functions and proofs say.
pub mod Tests
pub mod Subjects
pub mod Entries
pub mod Runs
pub mod Stops
