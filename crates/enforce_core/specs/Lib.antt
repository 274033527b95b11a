pub mod Places
pub mod Seen
pub mod Pieces
pub mod Asked
pub mod Called
pub mod Opened
pub mod Shown
pub mod Helps
