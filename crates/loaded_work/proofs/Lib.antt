mod AskLemmas
mod ExplainLemmas
mod FollowLemmas
mod GatheredLemmas
mod ItemLemmas
mod PieceLemmas
mod PrintLemmas
mod RolesLemmas
mod ShipLemmas
mod WorkLemmas
mod ExplainWork
pub mod CallerLemmas
