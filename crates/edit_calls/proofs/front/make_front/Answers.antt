use Rattle.std.proofs.Common.{◌≡◌, true, false, rules, arith, refl, sym, ◌∙◌}
use Rattle.std.proofs.lemmas.Option.{slice_get_read}
use Rattle.edit_calls.proofs.FrontLemmas.{front_more, made_more, none_behind, not_longer, not_next}
use Rattle.edit_calls.proofs.front.make_front.Goals as goal

pub returns-then-not-branch-clause-most : goal.returns-then-not-branch-clause-most
returns-then-not-branch-clause-most c = λ other within are.
    let here = slice_get_read c.args.edits.now _ c.loop-at.at c.index-edits-at.result refl (search (rules, arith)) c.index-edits-at.is in
    let fails : c.in_ok-make_admitted.field-0 ≡ false = search rules in
    not_longer c.args.shapes.now c.args.tables.now.policy c.args.edits.now c.loop-at.at _ here _ c.loop-at.invariant.made (sym c.in_ok-make_admitted.ensures.admitted ∙ fails) other are

pub returns-then-not-branch-clause-next : goal.returns-then-not-branch-clause-next
returns-then-not-branch-clause-next c =
    let here = slice_get_read c.args.edits.now _ c.loop-at.at c.index-edits-at.result refl (search (rules, arith)) c.index-edits-at.is in
    let fails : c.in_ok-make_admitted.field-0 ≡ false = search rules in
    not_next c.args.shapes.now c.args.tables.now.policy c.args.edits.now c.loop-at.at _ here _ c.loop-at.invariant.made (sym c.in_ok-make_admitted.ensures.admitted ∙ fails)

pub loop-at-preserved : goal.loop-at-preserved
loop-at-preserved c =
    let here = slice_get_read c.args.edits.now _ c.loop-at.at c.index-edits-at.result refl (search (rules, arith)) c.index-edits-at.is in
    let passes : c.in_ok-make_admitted.field-0 ≡ true = search rules in
    record {
      front = front_more c.args.shapes.now c.args.tables.now.policy c.args.edits.now c.loop-at.at _ here _ c.loop-at.invariant.made c.loop-at.invariant.front (sym c.in_ok-make_admitted.ensures.admitted ∙ passes);
      made = made_more c.args.shapes.now c.args.tables.now.policy c.args.edits.now c.loop-at.at _ here _ c.loop-at.invariant.made _ (c.in_ok-make_admitted.ensures.made passes);
      sound = c.in_ok-make_admitted.ensures.sound;
    }

pub returns-clause-next : goal.returns-clause-next
returns-clause-next c = λ edit here. absurd (none_behind c.args.edits.now edit here)
