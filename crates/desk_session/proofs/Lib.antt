mod LogLemmas
mod RequestLemmas
mod StepLemmas
mod QueryLemmas
mod PublishLemmas
mod OtherLemmas
mod PlainLemmas
pub mod CallerLemmas
