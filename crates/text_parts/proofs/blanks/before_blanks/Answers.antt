use Rattle.std.proofs.Common.{◌≡◌, ◌-◌, true, false, get_or, take, sym, ◌∙◌, arith, rules}
use Rattle.std.proofs.lemmas.Grind.{common_steps}
use Rattle.text_parts.specs.Blanks.{is_blank}
use Rattle.text_parts.proofs.BlankLemmas.{before_none, before_step, before_stop}
use Rattle.text_parts.proofs.blanks.before_blanks.Goals as goal
use Rattle.text_parts.proofs.blanks.before_blanks.Goals.{then-loop-end-test+else-is_blank, else-loop-end-test}

pub loop-end-preserved : goal.loop-end-preserved
loop-end-preserved c =
    let blank : is_blank (get_or c.args.text.now (c.loop-end.end - 1) 0) ≡ true = search rules in
    let step = before_step c.args.text.now c.loop-end.end _ (omega arith) c.loop-end.invariant.boundary.0 blank c.loop-end.invariant.same in
    record { boundary = step.0; same = step.1 }

pub returns : goal.returns
returns c =
    let front : c.range.result.now ≡ take c.loop-end.end c.args.text.now = grind (arith, common_steps) in
    elim c.loop-end-test.branch [
      | then-loop-end-test+else-is_blank w ↦
          let other : is_blank (get_or c.args.text.now (c.loop-end.end - 1) 0) ≡ false = search rules in
          front ∙ sym (before_stop c.args.text.now c.loop-end.end (omega arith) c.loop-end.invariant.boundary.0 other) ∙ c.loop-end.invariant.same
      | else-loop-end-test w ↦ front ∙ sym (before_none c.args.text.now c.loop-end.end (omega arith)) ∙ c.loop-end.invariant.same
    ]
