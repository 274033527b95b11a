pub mod Ranks
pub mod Tables
pub mod Changes
pub mod Held
pub mod Slots
pub mod Limits
pub mod Filters
pub mod Helps
