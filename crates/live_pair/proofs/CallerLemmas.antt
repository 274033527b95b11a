-- What a caller cites.
pub use Rattle.live_pair.proofs.FrontLemmas.{one_less, prefix_self, prefix_shorter, prefix_trans, prefix_whole}
pub use Rattle.policy_state.proofs.CallerLemmas.{version_stands}
pub use Rattle.live_pair.proofs.StoryLemmas.{edits_begin, edits_both, edits_more}
