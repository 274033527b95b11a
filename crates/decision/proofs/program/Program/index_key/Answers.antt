use Rattle.std.proofs.Common.{◌≡◌, ◌∙◌, Option, Some, IfSome, ap, length, subst, sym, true}
use Rattle.std.specs.Prelude.{option_map}
use Rattle.policy_index.specs.Keys.{KeyParts, is_below}
use Rattle.model_conf.specs.ModelText.{ModelParts}
use Rattle.decision.specs.Plans.{index_key, key_of}
use Rattle.decision.specs.Helps.KeptPlans.{IsPlan, IsPlanOf, parts_of_plan}
use Rattle.decision.proofs.KeyLemmas.{key_below}
use Rattle.decision.proofs.program.Program.index_key.Goals as goal
use Rattle.decision.proofs.program.Program.index_key.Goals.{In-Some}

-- the plan that is kept is the model's
kept : (c : In-Some) → IsPlan c.self.inside.model c.in-Some.plan
kept c = subst (IsPlanOf c.self.inside.model) c.in-Some.is c.self.invariant.kept

pub returns-in_ok-copy-in-Some-clause-key : goal.returns-in_ok-copy-in-Some-clause-key
returns-in_ok-copy-in-Some-clause-key c =
    let is = kept (goal.at.returns-in_ok-copy-in-Some-clause-key c).In-Some in
    ap (λ (k : KeyParts). Some k) (c.in_ok-copy-in-Some.ensures ∙ is.key) ∙ sym (ap (option_map key_of) is.plan) ∙ ap (λ (m : ModelParts). index_key m) c.self.view_is

pub returns-in-None-clause-key : goal.returns-in-None-clause-key
returns-in-None-clause-key c = sym (ap (option_map key_of) (subst (IsPlanOf c.self.inside.model) c.in-None.is c.self.invariant.kept)) ∙ ap (λ (m : ModelParts). index_key m) c.self.view_is

pub returns-in_ok-copy-in-Some-clause-within : goal.returns-in_ok-copy-in-Some-clause-within
returns-in_ok-copy-in-Some-clause-within c =
    let is = kept (goal.at.returns-in_ok-copy-in-Some-clause-within c).In-Some in
    subst (λ (m : ModelParts). is_below (length m.policy) c.in_ok-copy-in-Some.field-0 ≡ true) c.self.view_is
    (subst (λ (o : Option KeyParts). IfSome o (λ (k : KeyParts). is_below (length c.self.inside.model.policy) k ≡ true)) (ap (option_map key_of) is.plan ∙ ap (λ (k : KeyParts). Some k) (sym (c.in_ok-copy-in-Some.ensures ∙ is.key))) (key_below c.self.inside.model (parts_of_plan c.self.inside.model)))
