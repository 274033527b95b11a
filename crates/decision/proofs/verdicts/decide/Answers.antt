use Rattle.std.proofs.Common.{◌≡◌, IfErr, Ok, None, inl, map, refl, subst, true}
use Rattle.perm_value.specs.Seen.{datum}
use Rattle.policy_state.specs.States.{tables}
use Rattle.model_conf.specs.ModelText.{ModelParts}
use Rattle.matcher_meaning.specs.Comes.{takes_memory}
use Rattle.decision.proofs.JudgedLemmas.{judged_asked, judged_plain, only_in}
use Rattle.decision.proofs.verdicts.decide.Goals as goal

pub returns-clause-refused : goal.returns-clause-refused
returns-clause-refused g c =
    let asked = c.asking-asking.result in
    judged_asked asked.model.now _ asked.state.now _ asked.request.now _ _ _ c.verdict_by_code.result c.asking-asking.ensures.model c.asking-asking.ensures.state c.asking-asking.ensures.request c.verdict_by_code.ensures.judged

pub returns-clause-judged : goal.returns-clause-judged
returns-clause-judged g c =
    let asked = c.asking-asking.result in
    judged_plain c.args.program.now c.args.state.now.shapes (tables c.args.state.now) (map datum c.args.request.now) _ _ c.verdict_by_code.result
    (judged_asked asked.model.now _ asked.state.now _ asked.request.now _ _ _ c.verdict_by_code.result c.asking-asking.ensures.model c.asking-asking.ensures.state c.asking-asking.ensures.request c.verdict_by_code.ensures.judged)

pub returns-clause-no_memory : goal.returns-clause-no_memory
returns-clause-no_memory g c =
    subst (λ (m : ModelParts). IfErr c.verdict_by_code.result (λ e. takes_memory m.matcher ≡ true)) c.asking-asking.ensures.model c.verdict_by_code.ensures.no_memory

pub returns-in-Some-clause-refused : goal.returns-in-Some-clause-refused
returns-in-Some-clause-refused g c =
    let asked = c.asking-asking.result in
    let effect = asked.model.now.effect in
    let before = g.P.Finder.refusals c.args.finder.now in
    judged_asked asked.model.now _ asked.state.now _ asked.request.now _ before before (Ok c.in-Some.verdict) c.asking-asking.ensures.model c.asking-asking.ensures.state c.asking-asking.ensures.request
    (inl (only_in effect before before None refl, c.in-Some.ensures))

pub returns-in-Some-clause-judged : goal.returns-in-Some-clause-judged
returns-in-Some-clause-judged g c =
    let asked = c.asking-asking.result in
    let effect = asked.model.now.effect in
    let before = g.P.Finder.refusals c.args.finder.now in
    judged_plain c.args.program.now c.args.state.now.shapes (tables c.args.state.now) (map datum c.args.request.now) before before (Ok c.in-Some.verdict)
    (judged_asked asked.model.now _ asked.state.now _ asked.request.now _ before before (Ok c.in-Some.verdict) c.asking-asking.ensures.model c.asking-asking.ensures.state c.asking-asking.ensures.request
    (inl (only_in effect before before None refl, c.in-Some.ensures)))
