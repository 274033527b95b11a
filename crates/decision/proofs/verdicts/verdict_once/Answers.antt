use Rattle.std.proofs.Common.{[], subst}
use Rattle.effect_fold.specs.Folds.{HasTaken}
use Rattle.effect_fold.specs.declared.effect.Effect.{Effect}
use Rattle.regex_gate.specs.Refusals.{Refusals, RefusedOnly}
use Rattle.matcher_meaning.specs.Verdicts.{HasOneOutcome}
use Rattle.decision.specs.Helps.Asked.{case_in}
use Rattle.decision.specs.Decisions.{RefusedIn}
use Rattle.decision.proofs.FoldLemmas.{once_there}
use Rattle.decision.proofs.JudgedLemmas.{judged_for_more, only_in}
use Rattle.decision.proofs.verdicts.verdict_once.Goals as goal

pub returns-clause-judged : goal.returns-clause-judged
returns-clause-judged g c =
    let case = case_in c.args.asking.now in
    let before : Refusals = g.P.Finder.refusals c.args.finder.now in
    let now : Refusals = g.P.Finder.refusals c.outcome.new.finder in
    let took = subst (λ (e : Effect). HasTaken c.new-fold.result e []) c.effect.ensures c.new-fold.ensures in
    judged_for_more case (HasOneOutcome case) (RefusedOnly before now) (RefusedIn c.args.asking.now.model.now.effect before now) c.end.result (only_in c.args.asking.now.model.now.effect before now)
    (once_there case (RefusedOnly before now) c.new-fold.result c.take.new.self c.in_ok-outcome.outcome c.end.result c.in_ok-outcome.ensures.comes took c.take.ensures.taken c.end.ensures)
