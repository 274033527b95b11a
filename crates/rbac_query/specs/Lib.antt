pub mod Asked
pub mod Permissions
pub mod Report
pub mod Helps
