pub mod Orders
pub mod Helps
