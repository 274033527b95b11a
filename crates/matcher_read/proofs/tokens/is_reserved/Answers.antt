use Rattle.std.proofs.Common.{sym, ◌∙◌}
use Rattle.std.proofs.lemmas.Bool.{both_ways}
use Rattle.matcher_read.proofs.PieceLemmas.{reserved-last}
use Rattle.matcher_read.proofs.tokens.is_reserved.Goals as goal
use Rattle.matcher_read.proofs.tokens.is_reserved.Goals.{then-eq, else-eq}

pub returns-else-eq-2 : goal.returns-else-eq-2
returns-else-eq-2 c =
    elim c.if-eq.branch [
      | then-eq w ↦ absurd (both_ways c.if-eq.value c.if-eq-2.false (w.value-is ∙ w.if-eq.true))
      | else-eq w ↦ c.eq-else-eq-2.ensures ∙ reserved-last c.args.name.now (sym c.eq.ensures ∙ w.if-eq.false) (sym w.eq-else-eq.ensures ∙ sym w.value-is ∙ c.if-eq-2.false)
    ]
