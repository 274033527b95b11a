pub mod Relations
pub mod Domains
pub mod Steps
pub mod Sections
pub mod Reach
pub mod Helps
