pub mod Story
pub mod Seats
pub mod Admins
pub mod Life
pub mod Helps
