pub mod Words
pub mod Moments
pub mod Announced
pub mod Services
pub mod Helps
