mod AskLemmas
mod CallLemmas
mod LineLemmas
mod OpeningLemmas
mod OptionLemmas
mod PieceLemmas
mod PlaceLemmas
mod ShowLemmas
