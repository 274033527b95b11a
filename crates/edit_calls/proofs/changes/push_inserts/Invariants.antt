use Rattle.std.proofs.Common.{◌≡◌, ◌++◌, take}
use Rattle.edit_calls.specs.Edits.{inserts}
use Rattle.edit_calls.proofs.changes.push_inserts.Given as goal

abbrev pub invariant-loop-rule : goal.invariant-loop-rule
invariant-loop-rule l = l.changes.items ≡ l.fn.changes.items ++ inserts l.table (take l.rule-index l.rules)
