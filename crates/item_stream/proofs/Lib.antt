pub mod KindLemmas
pub mod KeepLemmas
pub mod HeldLemmas
pub mod CutLemmas
pub mod LineLemmas
pub mod CallerLemmas
