pub mod Machine
pub mod Rules
pub mod RunEnds
pub mod Compiled
pub mod Helps
