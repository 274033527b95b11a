use Rattle.std.proofs.Common.{inl, inr, length}
use Rattle.std.proofs.lemmas.Bool.{ltb-false, ltb-true}
use Rattle.decision.proofs.NameLemmas.{no_question}
use Rattle.decision.proofs.parts.questioned.Goals as goal
use Rattle.decision.proofs.parts.questioned.Goals.{in_default-as_slice-via-then-as_slice-lt2, in_default-as_slice-via-else-as_slice-lt2+else-this-lt3+else-this-lt4}

pub returns-in_default-as_slice : goal.returns-in_default-as_slice
returns-in_default-as_slice c =
    let items = c.as_slice.result.now in
    elim c.in_default-as_slice.branch [
      | in_default-as_slice-via-then-as_slice-lt2 w ↦ no_question c.args.tree.now c.in-Role.at c.in-Role.relation c.in-Role.arguments items c.in-Role.is c.as_slice.ensures.value (inl (ltb-true (length items) 2 w.if-as_slice-lt2-1.true))
      | in_default-as_slice-via-else-as_slice-lt2+else-this-lt3+else-this-lt4 w ↦ no_question c.args.tree.now c.in-Role.at c.in-Role.relation c.in-Role.arguments items c.in-Role.is c.as_slice.ensures.value (inr (ltb-false (length items) 4 w.if-this-lt4-1.false))
    ]
