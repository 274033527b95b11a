pub mod Sinks
pub mod Finders
pub mod Texts
pub mod Roles
pub mod Explained
pub mod Shipped
pub mod Followed
pub mod Helps
