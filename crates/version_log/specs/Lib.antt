pub mod Log
pub mod EditText
pub mod Helps
