pub mod Parts
pub mod Addresses
pub mod Blocks
