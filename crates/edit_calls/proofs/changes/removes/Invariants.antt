use Rattle.std.proofs.Common.{◌≡◌, take}
use Rattle.edit_calls.specs.Edits.{removes}
use Rattle.edit_calls.proofs.changes.removes.Given as goal

abbrev pub invariant-loop-rule : goal.invariant-loop-rule
invariant-loop-rule l = l.changes.items ≡ removes l.table (take l.rule-index l.rules)
