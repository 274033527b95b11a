use Rattle.std.proofs.Common.{◌∙◌, refl, subst, List, Option, [], ℕ}
use Rattle.effect_fold.specs.Folds.{HasTaken}
use Rattle.effect_fold.specs.declared.effect.Effect.{Effect}
use Rattle.regex_gate.proofs.CallerLemmas.{only_since}
use Rattle.regex_gate.specs.Refusals.{RefusedOnly}
use Rattle.matcher_meaning.specs.Order.{Numbered, numbered, numbered_from}
use Rattle.decision.specs.Helps.Asked.{case_in, rows_of}
use Rattle.decision.proofs.CoverLemmas.{judged_over_all}
use Rattle.decision.proofs.FoldLemmas.{IsFolded, folded_more, folded_none, open_end_there, settled_there, unsettled_none}
use Rattle.decision.proofs.JudgedLemmas.{judged_in_table_order, truths_at}
use Rattle.decision.proofs.OutcomeLemmas.{comes_for_more}
use Rattle.decision.proofs.by_rows.verdict_by_rows.Goals as goal

pub loop-number-init : goal.loop-number-init
loop-number-init g c =
    let took = subst (λ (e : Effect). HasTaken c.new-fold.result e []) c.effect.ensures c.new-fold.ensures in
    record { folded = folded_none (case_in c.args.asking.now) _ _ _ refl took; none = refl }

pub returns-then-take-clause-judged : goal.returns-then-take-clause-judged
returns-then-take-clause-judged g c =
    let case = case_in c.args.asking.now in
    let Refused : Option (List ℕ) → Type 0 = RefusedOnly (g.P.Finder.refusals c.args.finder.now) (g.P.Finder.refusals c.outcome.new.finder) in
    let row : Numbered = numbered c.in-Some.number c.in-Some.row.now in
    let so = subst (λ (rest : List Numbered). IsFolded case c.of-candidates.result rest c.loop-number.fold) c.in-Some.ensures c.loop-number.invariant.folded in
    let comes = comes_for_more case _ Refused _ _ (λ refused is. only_since _ _ _ refused c.loop-number.invariant.none is) c.in_ok-outcome.ensures.comes in
    judged_in_table_order case Refused (rows_of c.args.asking.now) _ c.requires.effect
    (judged_over_all case Refused (numbered_from 1 (rows_of c.args.asking.now)) c.of-candidates.result _ c.of-candidates.ensures
    (settled_there case (truths_at c.case_answer_is_there.ensures.truth case) Refused (rows_of c.args.asking.now) c.of-candidates.result _ c.loop-number.fold c.take.new.self row c.in_ok-outcome.outcome c.take.result c.end.result c.of-candidates.ensures so comes c.take.ensures.taken c.take.ensures.settled c.if-take.true c.end.ensures))

pub loop-number-preserved : goal.loop-number-preserved
loop-number-preserved g c =
    let case = case_in c.args.asking.now in
    let row : Numbered = numbered c.in-Some.number c.in-Some.row.now in
    let so = subst (λ (rest : List Numbered). IsFolded case c.of-candidates.result rest c.loop-number.fold) c.in-Some.ensures c.loop-number.invariant.folded in
    record {
      folded = folded_more case (RefusedOnly (g.P.Finder.refusals c.loop-number.finder) (g.P.Finder.refusals c.outcome.new.finder)) _ _ c.loop-number.fold c.take.new.self row c.in_ok-outcome.outcome c.take.result so c.in_ok-outcome.ensures.comes c.take.ensures.taken c.take.ensures.settled c.if-take.false;
      none = unsettled_none case (RefusedOnly (g.P.Finder.refusals c.loop-number.finder) (g.P.Finder.refusals c.outcome.new.finder)) _ _ c.loop-number.fold row c.in_ok-outcome.outcome c.take.result so c.in_ok-outcome.ensures.comes c.take.ensures.settled c.if-take.false ∙ c.loop-number.invariant.none;
    }

pub returns-clause-judged : goal.returns-clause-judged
returns-clause-judged g c =
    let case = case_in c.args.asking.now in
    let Refused : Option (List ℕ) → Type 0 = RefusedOnly (g.P.Finder.refusals c.args.finder.now) (g.P.Finder.refusals c.loop-number.finder) in
    let so = subst (λ (rest : List Numbered). IsFolded case c.of-candidates.result rest c.loop-number.fold) c.in_default.ensures c.loop-number.invariant.folded in
    judged_in_table_order case Refused (rows_of c.args.asking.now) _ c.requires.effect
    (judged_over_all case Refused (numbered_from 1 (rows_of c.args.asking.now)) c.of-candidates.result _ c.of-candidates.ensures
    (open_end_there case Refused c.of-candidates.result c.loop-number.fold c.end-2.result c.loop-number.invariant.none so c.end-2.ensures))
