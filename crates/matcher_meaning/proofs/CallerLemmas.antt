-- What a caller's proof cites of the words in `specs/Comes.antt`, `specs/Order.antt` and `specs/Verdicts.antt`.
pub use Rattle.matcher_meaning.proofs.RefusalLemmas.{Keeps}
pub use Rattle.matcher_meaning.proofs.CaseRefusalLemmas.{come_to_keep, comes_keeps, comes_to_keeps, evaluates_keeps, gives_keep}
pub use Rattle.matcher_meaning.proofs.PlainLemmas.{AreUnmoved, Implies, all_unmoved, unmoved, without_eval}
pub use Rattle.matcher_meaning.proofs.PlaceLemmas.{placed_at, placed_eval, placed_nodes}
pub use Rattle.matcher_meaning.proofs.VerdictLemmas.{OneDepth, OneTruthAt, SomeDepth, SomeTruthAt, depth_one, each_one, each_some, order_some, outcome_some, row_outcome_one, row_outcome_some}
pub use Rattle.matcher_meaning.proofs.VerdictRefusalLemmas.{truth_keeps}
