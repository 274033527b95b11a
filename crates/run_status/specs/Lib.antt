pub mod Parts
pub mod Statuses
pub mod Stops
pub mod Messages
pub mod Hits
pub mod Told
pub mod Helps
