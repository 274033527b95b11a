use Rattle.std.proofs.Common.{◌≡◌, true, get_or, refl, arith, rules}
use Rattle.std.proofs.lemmas.Str.{IsCharBoundary-start}
use Rattle.text_parts.specs.Blanks.{is_blank}
use Rattle.text_parts.proofs.BlankLemmas.{behind_step}
use Rattle.text_parts.proofs.blanks.behind_blanks.Goals as goal

pub loop-at-init : goal.loop-at-init
loop-at-init c = record { boundary = IsCharBoundary-start c.args.text.now c.utf8.text; same = refl }

pub loop-at-preserved : goal.loop-at-preserved
loop-at-preserved c =
    let blank : is_blank (get_or c.args.text.now c.loop-at.at 0) ≡ true = search rules in
    let step = behind_step c.args.text.now c.loop-at.at _ c.utf8.text (omega arith) blank c.loop-at.invariant.same in
    record { boundary = step.0; same = step.1 }
