pub mod CallerLemmas
pub mod DfaLemmas
pub mod KeptLemmas
