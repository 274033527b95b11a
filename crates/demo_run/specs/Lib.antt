pub mod DemoTexts
pub mod Summary
pub mod Demo
pub mod Helps
