use Rattle.std.proofs.Common.{inl, [], subst}
use Rattle.effect_fold.specs.Folds.{HasTaken}
use Rattle.effect_fold.specs.declared.effect.Effect.{Effect}
use Rattle.matcher_meaning.specs.Order.{numbered_from}
use Rattle.decision.specs.Helps.Asked.{case_in, rows_of}
use Rattle.decision.specs.Helps.Outcomes.{HasOutcomesInOrder}
use Rattle.decision.proofs.CoverLemmas.{covers_where_none, judged_over_all}
use Rattle.decision.proofs.JudgedLemmas.{Unrefused, judged_in_table_order, judged_unrefused}
use Rattle.decision.proofs.by_rows.verdict_of_none.Goals as goal

pub returns : goal.returns
returns c =
    let case = case_in c.args.asking.now in
    let table = rows_of c.args.asking.now in
    let took = subst (λ (e : Effect). HasTaken c.new-fold.result e []) c.effect.ensures c.new-fold.ensures in
    judged_unrefused case (HasOutcomesInOrder case table) c.end.result
    (judged_in_table_order case Unrefused table c.end.result c.requires.effect
    (judged_over_all case Unrefused (numbered_from 1 table) [] c.end.result (covers_where_none case table c.args.looked c.requires.leaves c.requires.none) (inl (tt, ([], tt, c.end.ensures case.model.effect [] took)))))
