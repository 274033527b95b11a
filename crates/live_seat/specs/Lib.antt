pub mod Decided
pub mod Caches
