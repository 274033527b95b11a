pub mod Datum
pub mod Attribute
pub mod Equality
pub mod Hashed
pub mod Seen
pub mod Json
pub mod Fields
pub mod Helps
