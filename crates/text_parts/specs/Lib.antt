pub mod Lines
pub mod Numbered
pub mod Blanks
pub mod Passed
pub mod Full
pub mod Names
