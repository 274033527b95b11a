mod ListLemmas
mod StandingLemmas
mod RowLemmas
mod MissLemmas
mod PartLemmas
mod LineLemmas
mod OneLemmas
pub mod CallerLemmas
