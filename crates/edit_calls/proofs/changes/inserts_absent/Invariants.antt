use Rattle.std.proofs.Common.{◌≡◌, filter, not, take}
use Rattle.policy_table.specs.Tables.{Fields, rows, stands}
use Rattle.edit_calls.specs.Edits.{inserts}
use Rattle.edit_calls.proofs.changes.inserts_absent.Given as goal

abbrev pub invariant-loop-rule : goal.invariant-loop-rule
invariant-loop-rule l = l.changes.items ≡ inserts l.table (filter (λ (rule : Fields). not (stands rule (rows l.tables.policy l.table))) (take l.rule-index l.rules))
