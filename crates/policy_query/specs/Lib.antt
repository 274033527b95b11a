pub mod Answers
pub mod Rules
pub mod Names
pub mod Found
pub mod Edits
pub mod Helps
