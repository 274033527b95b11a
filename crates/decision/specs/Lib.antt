pub mod Programs
pub mod Plans
pub mod Decisions
pub mod Helps
