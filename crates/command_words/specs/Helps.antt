pub mod Seen
pub mod Matched
