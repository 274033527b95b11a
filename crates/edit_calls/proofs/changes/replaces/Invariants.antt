use Rattle.std.proofs.Common.{◌≡◌, map, take}
use Rattle.policy_table.specs.Tables.{Fields}
use Rattle.policy_table.specs.declared.change.Change.TheVariants.{Replace}
use Rattle.edit_calls.proofs.changes.replaces.Given as goal

abbrev pub invariant-loop-pair : goal.invariant-loop-pair
invariant-loop-pair l = l.changes.items ≡ map (λ (pair : Fields × Fields). Replace l.table pair.0 pair.1) (take l.pair-index l.pairs)
