mod FrontLemmas
mod AddingLemmas
mod StoryLemmas
mod StartLemmas
mod ShownLemmas
mod SideLemmas
mod LineLemmas
mod OpeningLemmas
mod LifeLemmas
pub mod CallerLemmas
