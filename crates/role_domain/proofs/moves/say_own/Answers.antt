use Rattle.std.proofs.Common.{ap, sym, ◌∙◌}
use Rattle.policy_table.specs.Changes.{is_table}
use Rattle.role_domain.specs.Helps.Turns.{said_of}
use Rattle.role_domain.proofs.MoveLemmas.{said_more, said_past}
use Rattle.role_domain.proofs.moves.say_own.Goals as goal

pub loop-change-preserved-then-not-is_table : goal.loop-change-preserved-then-not-is_table
loop-change-preserved-then-not-is_table c = λ rule stood.
    said_past c.args.table c.args.changes.now c.loop-change.change-index c.change-item.result rule (said_of c.args.said.now.entries rule stood) (said_of c.loop-change.said.entries rule stood) c.loop-change-test.true c.change-item.is
    (ap (is_table c.args.table) (sym c.table.ensures) ∙ sym c.is_table.ensures ∙ c.if-not-is_table.true) (c.loop-change.invariant rule stood)

pub loop-change-preserved : goal.loop-change-preserved
loop-change-preserved c = λ rule stood.
    said_more c.args.table c.args.changes.now c.loop-change.change-index c.change-item.result rule (said_of c.args.said.now.entries rule stood) (said_of c.loop-change.said.entries rule stood) _ c.loop-change-test.true c.change-item.is
    (ap (is_table c.args.table) (sym c.table.ensures) ∙ sym c.is_table.ensures ∙ c.if-not-is_table.false) (c.loop-change.invariant rule stood) (c.in_ok-say.ensures rule stood)
