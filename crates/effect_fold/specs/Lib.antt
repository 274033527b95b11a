pub mod Verdict
pub mod Helps
pub mod Folds
