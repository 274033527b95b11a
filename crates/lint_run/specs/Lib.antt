pub mod Lints
pub mod Ends
pub mod Helps
