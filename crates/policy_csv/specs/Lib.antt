pub mod Lines
pub mod Policy
pub mod Faults
pub mod Printed
pub mod Helps
