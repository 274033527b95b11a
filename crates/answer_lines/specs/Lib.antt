pub mod Told
pub mod LineText
pub mod Printed
pub mod Helps
