use Rattle.std.proofs.Common.{refl, sym, subst, List, Option, IfSome, ℕ}
use Rattle.regex_gate.proofs.CallerLemmas.{used_none, used_then}
use Rattle.regex_gate.specs.Refusals.{IsRefused}
use Rattle.matcher_meaning.specs.Order.{Numbered, numbered}
use Rattle.decision.specs.Helps.Asked.{case_in, rows_of}
use Rattle.decision.specs.Helps.Outcomes.{HasOutcomesInOrder, IsJudgedOn}
use Rattle.effect_fold.specs.declared.verdict.Verdict.{Verdict}
use Rattle.decision.proofs.DepthLemmas.{no_depths}
use Rattle.decision.proofs.FirstLemmas.{IsSought, judged_by_first, sought_for_more, sought_more, sought_none}
use Rattle.decision.proofs.JudgedLemmas.{one_truth_at, some_since, some_still, truths_at}
use Rattle.decision.proofs.OutcomeLemmas.{comes_for_more}
use Rattle.decision.proofs.by_subjects.verdict_by_subjects.Goals as goal

pub loop-number-init : goal.loop-number-init
loop-number-init g c = record { sought = sought_none (case_in c.args.asking.now) _ _ _ refl; known = no_depths (case_in c.args.asking.now); used = used_none _ }

pub loop-number-preserved : goal.loop-number-preserved
loop-number-preserved g c =
    let case = case_in c.args.asking.now in
    let Refused : Option (List ℕ) → Type 0 = (λ refused. IfSome refused (IsRefused (g.P.Finder.refusals c.args.finder.now) (g.P.Finder.refusals c.outcome.new.finder))) in
    let row : Numbered = numbered c.in-Some.number c.in-Some.row.now in
    let so = subst (λ (rest : List Numbered). IsSought case (λ refused. IfSome refused (IsRefused (g.P.Finder.refusals c.args.finder.now) (g.P.Finder.refusals c.loop-number.finder))) c.of-candidates.result rest c.loop-number.first) c.in-Some.ensures c.loop-number.invariant.sought in
    let still = sought_for_more case _ Refused _ _ c.loop-number.first (λ refused is. some_still _ _ _ refused is c.in_ok-outcome.ensures.used) so in
    let comes = comes_for_more case _ Refused _ _ (λ refused is. some_since _ _ _ refused c.loop-number.invariant.used is) c.in_ok-outcome.ensures.comes in
    record {
      sought = sought_more case Refused (rows_of c.args.asking.now) c.of-candidates.result _ row c.in_ok-outcome.outcome c.loop-number.first _ c.of-candidates.ensures still comes c.first_with-first.ensures.first;
      known = c.first_with-first.ensures.known;
      used = used_then _ _ _ c.loop-number.invariant.used c.in_ok-outcome.ensures.used;
    }

pub returns-clause-judged : goal.returns-clause-judged
returns-clause-judged g c =
    let case = case_in c.args.asking.now in
    let Refused : Option (List ℕ) → Type 0 = (λ refused. IfSome refused (IsRefused (g.P.Finder.refusals c.args.finder.now) (g.P.Finder.refusals c.loop-number.finder))) in
    let so = subst (λ (rest : List Numbered). IsSought case Refused c.of-candidates.result rest c.loop-number.first) c.in_default.ensures c.loop-number.invariant.sought in
    subst (λ (v : Verdict). IsJudgedOn case (HasOutcomesInOrder case (rows_of c.args.asking.now)) Refused v) (sym c.verdict_of.ensures)
    (judged_by_first case c.depth_is_one.ensures.unique c.depth_is_one.ensures.there c.order_by_depth.ensures (one_truth_at c.case_answer_is_unique.ensures.truth case) (truths_at c.case_answer_is_there.ensures.truth case) Refused (rows_of c.args.asking.now) c.of-candidates.result c.loop-number.first tt c.requires.effect c.of-candidates.ensures so)

pub returns-in_err-outcome-clause-used : goal.returns-in_err-outcome-clause-used
returns-in_err-outcome-clause-used g c = used_then _ _ _ c.loop-number.invariant.used c.in_err-outcome.ensures.used
