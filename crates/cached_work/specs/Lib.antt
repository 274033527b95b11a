pub mod CacheHits
pub mod Helps
