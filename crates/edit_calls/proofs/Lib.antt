mod RefusalLemmas
mod EditLemmas
mod KnownLemmas
mod ApplyLemmas
mod ShapeLemmas
mod ResolveLemmas
mod AdmitLemmas
mod FrontLemmas
mod StandingLemmas
pub mod CallerLemmas
