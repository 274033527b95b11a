pub mod BehindLemmas
pub mod FieldLemmas
pub mod QuotedLemmas
mod PlainLemmas
mod MarkLemmas
pub mod PrintLemmas
pub mod SpellingLemmas
pub mod ReadLemmas
pub mod WrittenLemmas
pub mod FieldLineLemmas
pub mod TableLemmas
mod LastLemmas
mod RoleLemmas
pub mod CallerLemmas
