use Rattle.policy_table.specs.Tables.{Fields, rows, stands}
use Rattle.edit_calls.proofs.EditLemmas.{any_here, any_next}
use Rattle.edit_calls.proofs.named.one_stands.Goals as goal

pub returns-then-has : goal.returns-then-has
returns-then-has g c =
    any_here _ c.loop-at.at _ c.at.ensures (λ (rule : Fields). stands rule (rows c.args.tables.now.policy c.args.table)) c.loop-at.invariant (cc)

pub loop-at-preserved : goal.loop-at-preserved
loop-at-preserved g c =
    any_next _ c.loop-at.at _ c.at.ensures (λ (rule : Fields). stands rule (rows c.args.tables.now.policy c.args.table)) c.loop-at.invariant (cc)
