pub mod Events
pub mod Replies
pub mod Fronts
pub mod Laws
pub mod Helps
