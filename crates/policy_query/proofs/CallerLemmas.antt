-- What a caller cites: that a test picks from rows at rising places, which hold all that pass it, what it picks from all rows; and the
-- columns of rules about which a question is not refused.
pub use Rattle.policy_query.proofs.FoundLemmas.{found_filter}
pub use Rattle.policy_query.proofs.ShapeLemmas.{names_within}
