use Rattle.std.proofs.Common.{◌≡◌, IfErr, subst, true}
use Rattle.model_conf.specs.ModelText.{ModelParts}
use Rattle.matcher_meaning.specs.Comes.{takes_memory}
use Rattle.decision.proofs.JudgedLemmas.{judged_asked}
use Rattle.decision.proofs.NamedLemmas.{knows_asked, leaves_asked}
use Rattle.decision.proofs.verdicts.verdict_by_code.Goals as goal

pub with_known-known-requires-clause-knows : goal.with_known-known-requires-clause-knows
with_known-known-requires-clause-knows g c = knows_asked c.name_asked-name.result c.as_ref.result c.args.asking.now.state.now c.as_ref.ensures.value c.name_asked-name.ensures

pub on_narrow_stack-requires-clause-leaves : goal.on_narrow_stack-requires-clause-leaves
on_narrow_stack-requires-clause-leaves g c = λ lifetimes outlive.
    leaves_asked c.args.asking.now c.with_known-known.result c.args.looked c.with_known-known.ensures.model c.with_known-known.ensures.state c.with_known-known.ensures.request c.requires.leaves

pub on_wide_stack-requires-clause-leaves : goal.on_wide_stack-requires-clause-leaves
on_wide_stack-requires-clause-leaves g c = λ lifetimes outlive.
    leaves_asked c.args.asking.now c.with_known-known.result c.args.looked c.with_known-known.ensures.model c.with_known-known.ensures.state c.with_known-known.ensures.request c.requires.leaves

pub returns-then-height-le-NARROW-clause-judged : goal.returns-then-height-le-NARROW-clause-judged
returns-then-height-le-NARROW-clause-judged g c =
    let asked = c.with_known-known.result in
    judged_asked asked.model.now _ asked.state.now _ asked.request.now _ _ _ c.on_narrow_stack.result c.with_known-known.ensures.model c.with_known-known.ensures.state c.with_known-known.ensures.request c.on_narrow_stack.ensures.judged

pub returns-then-height-le-NARROW-clause-no_memory : goal.returns-then-height-le-NARROW-clause-no_memory
returns-then-height-le-NARROW-clause-no_memory g c =
    subst (λ (m : ModelParts). IfErr c.on_narrow_stack.result (λ e. takes_memory m.matcher ≡ true)) c.with_known-known.ensures.model c.on_narrow_stack.ensures.no_memory

pub returns-clause-judged : goal.returns-clause-judged
returns-clause-judged g c =
    let asked = c.with_known-known.result in
    judged_asked asked.model.now _ asked.state.now _ asked.request.now _ _ _ c.on_wide_stack.result c.with_known-known.ensures.model c.with_known-known.ensures.state c.with_known-known.ensures.request c.on_wide_stack.ensures.judged

pub returns-clause-no_memory : goal.returns-clause-no_memory
returns-clause-no_memory g c =
    subst (λ (m : ModelParts). IfErr c.on_wide_stack.result (λ e. takes_memory m.matcher ≡ true)) c.with_known-known.ensures.model c.on_wide_stack.ensures.no_memory
