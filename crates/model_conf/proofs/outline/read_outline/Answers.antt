use Rattle.std.proofs.Common.{◌≡◌, ℕ, true, false, List, rules, sym, ap, ◌∙◌}
use Rattle.perm_base.specs.declared.shapes.RoleShape.{RoleShape}
use Rattle.model_conf.specs.Columns.{columns_in}
use Rattle.model_conf.specs.Effects.{may_have}
use Rattle.model_conf.specs.Relations.{relations_of}
use Rattle.model_conf.specs.Helps.Seen.{entries_seen}
use Rattle.model_conf.proofs.EffectLemmas.{allowed, no_text, not_allowed}
use Rattle.model_conf.proofs.FaultLemmas.{columns_are, no_columns, no_effect, no_policy, no_shape}
use Rattle.model_conf.proofs.OptionLemmas.{found_at, none_at}
use Rattle.model_conf.proofs.outline.read_outline.Goals as goal
use Rattle.model_conf.proofs.outline.read_outline.Goals.{After-may_have}

pub returns-in_default : goal.returns-in_default
returns-in_default c = λ other. no_columns _ _ c.requires (none_at _ _ _ c.in_default.is c.in_ok-request.ensures)

pub returns-in_default-2 : goal.returns-in_default-2
returns-in_default-2 c = λ other. no_policy _ _ c.requires (found_at _ _ _ _ c.in-Some.is c.in_ok-request.ensures).0 (none_at _ _ _ c.in_default-2.is c.in_ok-policy.ensures)

pub returns-in-Some-first_bad_shape : goal.returns-in-Some-first_bad_shape
returns-in-Some-first_bad_shape c = λ other.
    no_shape _ _ c.in-Some-first_bad_shape.relation (columns_are _ _ c.requires (found_at _ _ _ _ c.in-Some.is c.in_ok-request.ensures).0 (found_at _ _ _ _ c.in-Some-2.is c.in_ok-policy.ensures).0) c.in-Some-first_bad_shape.ensures

pub returns-in_default-3 : goal.returns-in_default-3
returns-in_default-3 c = λ other.
    no_effect _ _ (columns_are _ _ c.requires (found_at _ _ _ _ c.in-Some.is c.in_ok-request.ensures).0 (found_at _ _ _ _ c.in-Some-2.is c.in_ok-policy.ensures).0) c.in_default-first_bad_shape.ensures
    (no_text _ _ _ (sym c.in_default-3.is ∙ c.in_ok-effect.ensures))

-- whether these values may have the effect
test : (c : After-may_have) → c.may_have.result ≡ may_have (relations_of (entries_seen c.args.entries.now)) (columns_in c.args.values.policy.now) c.in-Some-3.effect
test c =
    let policy = (found_at _ _ _ _ c.in-Some-2.is c.in_ok-policy.ensures).1 in
    c.may_have.ensures ∙ ap (λ (relations : List RoleShape). may_have relations c.in-Some-2.policy c.in-Some-3.effect) (c.deref.ensures.value ∙ c.in_ok-relations.ensures)
    ∙ ap (λ (columns : List (List ℕ)). may_have (relations_of (entries_seen c.args.entries.now)) columns c.in-Some-3.effect) policy

pub returns-then-not-may_have : goal.returns-then-not-may_have
returns-then-not-may_have c = λ other.
    let unfit : c.may_have.result ≡ false = search rules in
    no_effect _ _ (columns_are _ _ c.requires (found_at _ _ _ _ c.in-Some.is c.in_ok-request.ensures).0 (found_at _ _ _ _ c.in-Some-2.is c.in_ok-policy.ensures).0) c.in_default-first_bad_shape.ensures
    (not_allowed _ _ _ c.in-Some-3.effect (sym c.in-Some-3.is ∙ c.in_ok-effect.ensures) (sym (test (goal.at.returns-then-not-may_have c).After-may_have) ∙ unfit))

pub returns : goal.returns
returns c =
    let fit : c.may_have.result ≡ true = search rules in
    let request = found_at _ _ _ _ c.in-Some.is c.in_ok-request.ensures in
    let policy = found_at _ _ _ _ c.in-Some-2.is c.in_ok-policy.ensures in
    record {
      has = record {
        has = columns_are _ _ c.requires request.0 policy.0;
        shapes = sym c.in_default-first_bad_shape.ensures;
        effect_is = allowed _ _ _ c.in-Some-3.effect (sym c.in-Some-3.is ∙ c.in_ok-effect.ensures) (sym (test (goal.at.returns c).After-may_have) ∙ fit);
      };
      request = request.1;
      policy = policy.1;
      relations = c.in_ok-relations.ensures;
    }
