pub mod Places
pub mod Keys
pub mod Hashes
pub mod Lists
pub mod Indexed
pub mod Found
pub mod Finders
pub mod Helps
