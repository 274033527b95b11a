pub mod Squares
pub mod Helps
