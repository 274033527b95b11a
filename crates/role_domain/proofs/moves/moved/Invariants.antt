use Rattle.std.proofs.Common.{◌≡◌, filter, take}
use Rattle.policy_table.specs.Tables.{Fields, rows, stands}
use Rattle.role_domain.specs.Helps.Turns.{said_of, turns}
use Rattle.role_domain.proofs.moves.moved.Given as goal

abbrev pub invariant-loop-rule : goal.invariant-loop-rule
invariant-loop-rule l =
    l.rules.items
    ≡ filter (λ (rule : Fields). turns l.comes (stands rule (rows l.tables.policy l.table)) (said_of l.said.entries rule (stands rule (rows l.tables.policy l.table)))) (take l.rule-index l.rule-items)
