pub mod Items
pub mod Fits
pub mod Values
pub mod FileNames
pub mod Commands
pub mod Helps
