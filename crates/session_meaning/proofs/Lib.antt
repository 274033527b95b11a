mod GivenLemmas
mod OutLemmas
mod StartLemmas
mod AdmittedLemmas
mod ReplyLemmas
mod LineLemmas
mod PrintableLemmas
mod DeskLemmas
mod RoundLemmas
pub mod CallerLemmas
