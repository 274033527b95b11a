use Rattle.std.proofs.Common.{◌≡◌, None, take}
use Rattle.policy_index.specs.Indexed.{IsIndexOf}
use Rattle.policy_index.proofs.filter_index.FilterIndex.make.Given as goal

abbrev pub invariant-loop-rule : goal.invariant-loop-rule
invariant-loop-rule l = record {
  plain : l.index.key.pattern ≡ None;
  rows : IsIndexOf l.index (take l.rule-index l.rule-items);
}
