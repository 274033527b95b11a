mod LaneLemmas
mod FrontLemmas
mod RowLemmas
mod RelaxLemmas
mod LimitLemmas
mod SquareLemmas
mod SeenLemmas
mod CellLemmas
mod CopyLemmas
pub mod CallerLemmas
