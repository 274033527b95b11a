mod EventLemmas
mod CutLemmas
mod LawLemmas
mod WorldLemmas
mod RunLemmas
pub mod CallerLemmas
