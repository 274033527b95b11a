pub mod Requests
pub mod Desks
pub mod Steps
pub mod Scripts
