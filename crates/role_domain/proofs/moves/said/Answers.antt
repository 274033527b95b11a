use Rattle.std.proofs.Common.{ap, sym, ◌∙◌, List, take}
use Rattle.policy_table.specs.Changes.{flat, own}
use Rattle.policy_table.specs.declared.change.Change.{Change}
use Rattle.role_domain.specs.Helps.Turns.{said_of, stands_after}
use Rattle.role_domain.proofs.ChangeLemmas.{own_flat_more}
use Rattle.role_domain.proofs.MoveLemmas.{stands_both}
use Rattle.role_domain.proofs.moves.said.Goals as goal

pub loop-edit-preserved : goal.loop-edit-preserved
loop-edit-preserved c = λ rule stood.
    c.in_ok-say_own.ensures rule stood
    ∙ ap (λ (l : List Change). stands_after (own c.args.table l) rule (said_of c.loop-edit.said.entries rule stood)) c.as_slice.ensures
    ∙ ap (stands_after (own c.args.table c.edit-item.result) rule) (c.loop-edit.invariant rule stood)
    ∙ sym (stands_both (own c.args.table (flat (take c.loop-edit.edit-index c.args.edits.now))) (own c.args.table c.edit-item.result) rule stood)
    ∙ ap (λ (l : List Change). stands_after l rule stood) (sym (own_flat_more c.args.table c.args.edits.now c.loop-edit.edit-index c.edit-item.result c.loop-edit-test.true c.edit-item.is))
