mod ShapeLemmas
mod NameLemmas
mod RowLemmas
mod FoundLemmas
pub mod CallerLemmas
