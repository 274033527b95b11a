pub mod Given
pub mod Versions
pub mod Replies
pub mod Plain
pub mod Rounds
pub mod Desks
