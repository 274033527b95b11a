pub mod Refusals
pub mod Edits
pub mod Found
pub mod Answers
pub mod Told
pub mod Admitted
pub mod Helps
