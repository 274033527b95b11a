pub mod Found
pub mod Refusals
pub mod Finders
