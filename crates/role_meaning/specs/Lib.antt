pub mod Fits
pub mod Links
pub mod Least
pub mod Distances
pub mod Depths
pub mod Implied
pub mod ImpliedUsers
