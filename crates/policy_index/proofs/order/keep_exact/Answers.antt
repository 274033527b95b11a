use Rattle.std.proofs.Common.{◌<◌, ◌∙◌, arith, length, sym}
use Rattle.perm_base.specs.declared.shapes.TableId.TheVariants.{P}
use Rattle.policy_table.specs.Tables.{rows}
use Rattle.policy_index.specs.Places.{has_text_at}
use Rattle.policy_index.proofs.OrderLemmas.{keeps_all, keeps_none, keeps_not, keeps_one, keeps_within}
use Rattle.policy_index.proofs.order.keep_exact.Goals as goal
use Rattle.policy_index.proofs.order.keep_exact.Goals.{then-row_has, else-row_has}

pub loop-at-init : goal.loop-at-init
loop-at-init c = keeps_none (has_text_at c.args.column c.args.text.now (rows c.args.tables.now.policy P)) c.args.places.now.items

pub row_has-requires-clause-within : goal.row_has-requires-clause-within
row_has-requires-clause-within c =
    keeps_within (has_text_at c.args.column c.args.text.now (rows c.args.tables.now.policy P)) c.args.places.now.items c.loop-at.places.items c.loop-at.kept c.loop-at.at c.index-place.result.now (length (rows c.args.tables.now.policy P)) c.loop-at.invariant
    c.requires.within (omega (arith, c.loop-at-test.true, c.loop-at.invariant.same)) c.index-place.ensures

pub loop-at-preserved : goal.loop-at-preserved
loop-at-preserved c =
    let within : c.loop-at.at < length c.loop-at.places.items = omega (arith, c.loop-at-test.true, c.loop-at.invariant.same) in
    elim c.if-row_has.branch [
      | then-row_has w ↦
          rw (w.places-is, w.kept-is)
          (keeps_one (has_text_at c.args.column c.args.text.now (rows c.args.tables.now.policy P)) c.args.places.now.items c.loop-at.places.items c.loop-at.kept c.loop-at.at c.index-place.result.now c.loop-at.invariant within (sym c.index-place.ensures)
          (sym c.row_has.ensures ∙ w.if-row_has.true))
      | else-row_has w ↦
          rw (w.places-is, w.kept-is)
          (keeps_not (has_text_at c.args.column c.args.text.now (rows c.args.tables.now.policy P)) c.args.places.now.items c.loop-at.places.items c.loop-at.kept c.loop-at.at c.index-place.result.now c.loop-at.invariant within (sym c.index-place.ensures)
          (sym c.row_has.ensures ∙ w.if-row_has.false))
    ]

pub returns : goal.returns
returns c =
    c.truncate.ensures.items
    ∙ keeps_all (has_text_at c.args.column c.args.text.now (rows c.args.tables.now.policy P)) c.args.places.now.items c.loop-at.places.items c.loop-at.kept c.loop-at.at c.loop-at.invariant (omega (arith, c.loop-at-test.false, c.loop-at.invariant.same))
