-- What only private functions and proofs say.
pub mod Marks
pub mod Walks
pub mod Roles
pub mod NameHash
pub mod UserRoles
pub mod Kept
pub mod Edits
pub mod Names
pub mod Squares
pub mod Mended
pub mod Distances
pub mod Users
pub mod Lists
pub mod ReachMarks
