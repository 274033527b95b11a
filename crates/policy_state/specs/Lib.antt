pub mod States
pub mod Asked
pub mod Ready
pub mod Helps
