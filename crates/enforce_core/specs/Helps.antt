-- What only private functions and proofs say.
pub mod Held
pub mod Cut
pub mod Items
pub mod Words
pub mod Made
