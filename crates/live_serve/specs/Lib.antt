pub mod Sayings
pub mod Lines
pub mod Followed
pub mod Places
pub mod Served
pub mod Streams
pub mod Standings
pub mod Helps
