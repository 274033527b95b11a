use Rattle.std.proofs.Common.{refl, subst, inl, List, []}
use Rattle.effect_fold.specs.Folds.{HasTaken}
use Rattle.effect_fold.specs.declared.effect.Effect.{Effect}
use Rattle.matcher_meaning.specs.Order.{Numbered, numbered, numbered_from}
use Rattle.decision.specs.Helps.Asked.{case_in, rows_of}
use Rattle.decision.specs.Helps.Outcomes.{HasOutcomesInOrder}
use Rattle.decision.proofs.CoverLemmas.{judged_over_all}
use Rattle.decision.proofs.FoldLemmas.{IsFolded, folded_more, folded_none, open_end_there, settled_there}
use Rattle.decision.proofs.JudgedLemmas.{Unrefused, judged_in_table_order, judged_unrefused, truths_at}
use Rattle.decision.proofs.by_rows.verdict_by_parts.Goals as goal

pub loop-number-init : goal.loop-number-init
loop-number-init c =
    let took = subst (λ (e : Effect). HasTaken c.new-fold.result e []) c.effect.ensures c.new-fold.ensures in
    record { folded = folded_none (case_in c.args.asking.now) _ _ _ refl took }

pub returns-then-take : goal.returns-then-take
returns-then-take c =
    let case = case_in c.args.asking.now in
    let table = rows_of c.args.asking.now in
    let row : Numbered = numbered c.in-Some.number c.in-Some.row.now in
    let so = subst (λ (rest : List Numbered). IsFolded case c.of-candidates.result rest c.loop-number.fold) c.in-Some.ensures c.loop-number.invariant.folded in
    judged_unrefused case (HasOutcomesInOrder case table) c.end.result
    (judged_in_table_order case Unrefused table c.end.result c.requires.effect
    (judged_over_all case Unrefused (numbered_from 1 table) c.of-candidates.result c.end.result c.of-candidates.ensures
    (settled_there case (truths_at c.case_answer_is_there.ensures.truth case) Unrefused table c.of-candidates.result _ c.loop-number.fold c.take.new.self row c.in-Some-outcome_told.outcome c.take.result c.end.result c.of-candidates.ensures so (inl (tt, c.in-Some-outcome_told.ensures)) c.take.ensures.taken
    c.take.ensures.settled c.if-take.true c.end.ensures)))

pub loop-number-preserved : goal.loop-number-preserved
loop-number-preserved c =
    let case = case_in c.args.asking.now in
    let row : Numbered = numbered c.in-Some.number c.in-Some.row.now in
    let so = subst (λ (rest : List Numbered). IsFolded case c.of-candidates.result rest c.loop-number.fold) c.in-Some.ensures c.loop-number.invariant.folded in
    record {
      folded = folded_more case Unrefused _ _ c.loop-number.fold c.take.new.self row c.in-Some-outcome_told.outcome c.take.result so (inl (tt, c.in-Some-outcome_told.ensures)) c.take.ensures.taken c.take.ensures.settled c.if-take.false;
    }

pub returns : goal.returns
returns c =
    let case = case_in c.args.asking.now in
    let table = rows_of c.args.asking.now in
    let so = subst (λ (rest : List Numbered). IsFolded case c.of-candidates.result rest c.loop-number.fold) c.in_default.ensures c.loop-number.invariant.folded in
    judged_unrefused case (HasOutcomesInOrder case table) c.end-2.result
    (judged_in_table_order case Unrefused table c.end-2.result c.requires.effect
    (judged_over_all case Unrefused (numbered_from 1 table) c.of-candidates.result c.end-2.result c.of-candidates.ensures (open_end_there case Unrefused c.of-candidates.result c.loop-number.fold c.end-2.result tt so c.end-2.ensures)))
