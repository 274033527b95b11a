-- What a caller cites: that a text which fits a pattern may fit by its front, and that the rows are found whose slots are.
pub use Rattle.policy_index.proofs.LawLemmas.{alike_may, brace_may, colon_may, cut_may, glob_may, star_may}
pub use Rattle.policy_index.proofs.OrderLemmas.{finds_rows}
pub use Rattle.policy_index.proofs.AddLemmas.{slots_both, slots_none, slots_weaker}
