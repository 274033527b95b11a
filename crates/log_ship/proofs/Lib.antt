mod PartLemmas
mod ReadLemmas
mod DecideLemmas
mod WaitLemmas
mod AcceptLemmas
mod AppendLemmas
mod TakeLemmas
mod HonestLemmas
mod HistoryLemmas
mod LawLemmas
mod ShipLemmas
pub mod CallerLemmas
