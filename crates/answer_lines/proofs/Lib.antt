mod PushLemmas
mod WholeLemmas
pub mod MarkLemmas
