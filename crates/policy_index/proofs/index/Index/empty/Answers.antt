use Rattle.policy_index.proofs.MarkLemmas.{none_kept}
use Rattle.policy_index.proofs.index.Index.empty.Goals as goal

pub invariant_of-result : goal.invariant_of-result
invariant_of-result c = none_kept _ _ _ _ c.new.ensures.items c.new-2.ensures c.new-3.ensures c.new-4.ensures.items
