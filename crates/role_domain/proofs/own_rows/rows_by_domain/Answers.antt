use Rattle.std.proofs.Common.{List, rules, subst}
use Rattle.policy_table.specs.Tables.{Fields}
use Rattle.role_domain.specs.Helps.OwnRows.{HaveRows}
use Rattle.role_domain.proofs.OwnLemmas.{rows_none}
use Rattle.role_domain.proofs.own_rows.rows_by_domain.Goals as goal

pub loop-row-init : goal.loop-row-init
loop-row-init c = rows_none c.args.rows _ c.new-own.result c.new-own.ensures (search rules)

pub loop-row-preserved : goal.loop-row-preserved
loop-row-preserved c =
    c.in_ok-push.ensures c.args.rows c.next.new.self (subst (λ (left : List Fields). HaveRows c.args.rows left c.loop-row.own) c.in-Some.ensures.steps c.loop-row.invariant)

pub returns : goal.returns
returns c = subst (λ (left : List Fields). HaveRows c.args.rows left c.loop-row.own) c.in-None.ensures.steps.0 c.loop-row.invariant
