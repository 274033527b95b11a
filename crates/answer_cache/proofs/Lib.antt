mod EntryLemmas
mod CacheLemmas
mod GoodLemmas
mod AnswerLemmas
mod SeatLemmas
pub mod CallerLemmas
