use Rattle.std.proofs.Common.{rules, ◌≡◌, ℕ, sym, ap, ◌∙◌, subst}
use Rattle.std.specs.Option.{option_copied_mut}
use Rattle.perm_value.specs.Datum as datum
use Rattle.regex_gate.specs.Refusals.{RefusedOnly}
use Rattle.matcher_meaning.specs.Cases.{where_refused}
use Rattle.matcher_code.specs.Helps.Ends.{case_for}
use Rattle.matcher_code.specs.Helps.Kept.{TextComesTo}
use Rattle.matcher_code.specs.RunEnds.{IsAnswer}
use Rattle.matcher_code.proofs.KeptLemmas.{kept_under, kept_used}
use Rattle.matcher_code.proofs.kept_rules.FrameRules.truth_under.Goals as goal

pub truth-requires : goal.truth-requires
truth-requires g c =
    (search rules, (c.args.model.now, c.args.text.now, kept_under c.self.inside.frame c.self.inside.rules c.args.model.now c.args.text.now c.in-Some.rule.now c.self.invariant (sym c.get_mut.ensures.value ∙ ap option_copied_mut c.in-Some.is) (c.is_of.ensures c.if-not-is_of.false)))

pub returns-clause-comes : goal.returns-clause-comes
returns-clause-comes g c =
    let case = case_for c.args.model.now c.args.asked (g.K.Links.shapes c.args.links.now) (g.K.Links.policy c.args.links.now) in
    let is = kept_under c.self.inside.frame c.self.inside.rules c.args.model.now c.args.text.now c.in-Some.rule.now c.self.invariant (sym c.get_mut.ensures.value ∙ ap option_copied_mut c.in-Some.is) (c.is_of.ensures c.if-not-is_of.false) in
    let here : c.in-Some.rule.now.at ≡ c.args.at = search rules in
    subst (λ (place : ℕ). IsAnswer (λ refused answer. TextComesTo (where_refused case refused) place c.args.text.now answer) (λ b. datum.truth b) (RefusedOnly (g.P.Finder.refusals c.args.finder.now) (g.P.Finder.refusals c.truth.new.finder)) c.truth.result)
    here (c.truth.ensures c.args.model.now c.args.text.now is)

pub invariant_of-self-then-rule-at : goal.invariant_of-self-then-rule-at
invariant_of-self-then-rule-at g c = kept_used c.self.inside.frame c.self.inside.rules c.args.text.now c.in-Some.rule.now c.self.invariant (sym c.get_mut.ensures.value ∙ ap option_copied_mut c.in-Some.is)

pub invariant_of-self-2 : goal.invariant_of-self-2
invariant_of-self-2 g c = kept_used c.self.inside.frame c.self.inside.rules c.args.text.now c.in-Some.rule.now c.self.invariant (sym c.get_mut.ensures.value ∙ ap option_copied_mut c.in-Some.is)
