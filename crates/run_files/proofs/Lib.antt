pub mod ReadingLemmas
pub mod LoadLemmas
