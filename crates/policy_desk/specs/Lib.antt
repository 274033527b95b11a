pub mod Desks
pub mod Answers
pub mod Transitions
pub mod Ready
pub mod Helps
