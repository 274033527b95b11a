pub mod Expression
pub mod Kinds
pub mod Tokens
pub mod Grammar
pub mod Calls
pub mod Matcher
pub mod Faults
pub mod Helps
