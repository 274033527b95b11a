-- What a caller cites of publishes.
pub use Rattle.policy_desk.proofs.DeskLemmas.{published_from}
