pub mod Groups
pub mod Graph
pub mod Built
pub mod Reach
pub mod Keyed
pub mod Helps
