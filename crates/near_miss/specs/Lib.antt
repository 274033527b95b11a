pub mod Written
pub mod Parts
pub mod Misses
pub mod Lines
pub mod Helps
