mod Decided
mod Rows
mod Reach
mod Tried
mod PlainNames
mod Order
pub mod CallerLemmas
