mod AnswerLemmas
mod DeskLemmas
mod DraftLemmas
pub mod CallerLemmas
