pub mod Cached
pub mod Answered
pub mod Good
pub mod Seats
