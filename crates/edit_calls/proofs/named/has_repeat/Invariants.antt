use Rattle.std.proofs.Common.{◌≡◌, take, false}
use Rattle.edit_calls.specs.Edits.{has_repeat}
use Rattle.edit_calls.proofs.named.has_repeat.Given as goal

abbrev pub invariant-loop-at : goal.invariant-loop-at
invariant-loop-at g l = record {
  taken : l.seen.keys ≡ take l.at (g.L.RuleList.rules l.rules);
  once : has_repeat (take l.at (g.L.RuleList.rules l.rules)) ≡ false;
}
