use Rattle.std.proofs.Common.{inl, inr, length}
use Rattle.std.proofs.lemmas.Bool.{ltb-false, ltb-true}
use Rattle.decision.proofs.NameLemmas.{no_pair}
use Rattle.decision.proofs.parts.fitted.Goals as goal
use Rattle.decision.proofs.parts.fitted.Goals.{in_default-as_slice-via-then-as_slice-lt2, in_default-as_slice-via-else-as_slice-lt2+else-this-lt3}

pub returns-in_default-as_slice : goal.returns-in_default-as_slice
returns-in_default-as_slice c =
    let items = c.as_slice.result.now in
    elim c.in_default-as_slice.branch [
      | in_default-as_slice-via-then-as_slice-lt2 w ↦ no_pair c.args.tree.now c.in-Call.at c.in-Call.function c.in-Call.arguments items c.in-Call.is c.as_slice.ensures.value (inl (ltb-true (length items) 2 w.if-as_slice-lt2-1.true))
      | in_default-as_slice-via-else-as_slice-lt2+else-this-lt3 w ↦ no_pair c.args.tree.now c.in-Call.at c.in-Call.function c.in-Call.arguments items c.in-Call.is c.as_slice.ensures.value (inr (ltb-false (length items) 3 w.if-this-lt3-1.false))
    ]
