pub mod Pieces
pub mod Patterns
pub mod Signs
pub mod Fronts
pub mod Stars
pub mod Divisions
pub mod Names
pub mod Helps
