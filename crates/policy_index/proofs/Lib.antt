mod HashLemmas
mod LawLemmas
mod ListLemmas
mod CopyLemmas
mod MarkLemmas
mod CommitLemmas
mod ReserveLemmas
mod FollowLemmas
mod FindLemmas
mod FoundLemmas
mod PlaceLemmas
mod AddLemmas
mod OrderLemmas
mod FoundRowsLemmas
mod FinderLemmas
mod FilterLemmas
pub mod CallerLemmas
