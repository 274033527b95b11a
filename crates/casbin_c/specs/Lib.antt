pub mod Held
pub mod Handles
pub mod Codes
pub mod Decisions
pub mod Told
pub mod Opened
