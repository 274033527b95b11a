-- The texts of effects, which are compared without blanks (Casbin, policy effects).
use Rattle.std.specs.Prelude.{ℕ, ◌==◌, ◌&&◌, ◌||◌, Bool, true, not, if◌then◌else◌, List, [], ◌∷◌, codes, Option, Some, None, filter, find, option_and_then}
use Rattle.std.specs.List.{list_any}
use Rattle.std.specs.Str.{bytes_eq}
use Rattle.effect_fold.specs.declared.effect.Effect.{Effect}
use Rattle.effect_fold.specs.declared.effect.Effect.TheVariants as e
use Rattle.perm_base.specs.declared.shapes.RoleShape.{RoleShape}
use Rattle.text_parts.specs.Blanks.{is_blank}

-- without any blank
abbrev pub without_blanks : List ℕ → List ℕ
without_blanks text = filter (λ (byte : ℕ). not (is_blank byte)) text

-- the effects
abbrev pub effects : List Effect
effects = e.AllowOverride ∷ e.DenyOverride ∷ e.AllowAndDeny ∷ e.Priority ∷ e.SubjectPriority ∷ []

-- how an effect is written
abbrev pub effect_text : Effect → List ℕ
effect_text e.AllowOverride = codes "some(where (p.eft == allow))"
effect_text e.DenyOverride = codes "!some(where (p.eft == deny))"
effect_text e.AllowAndDeny = codes "some(where (p.eft == allow)) && !some(where (p.eft == deny))"
effect_text e.Priority = codes "priority(p.eft) || deny"
effect_text e.SubjectPriority = codes "subjectPriority(p.eft) || deny"

-- the effect that a text without blanks writes
abbrev pub effect_named : List ℕ → Option Effect
effect_named bare = find (λ (effect : Effect). bytes_eq bare (without_blanks (effect_text effect))) effects

-- the effect of a text
unfoldable pub effect_of : List ℕ → Option Effect
effect_of text = effect_named (without_blanks text)

-- `g` is declared, and where it has domains the policy has a column `dom`
abbrev pub has_subjects : List RoleShape → List (List ℕ) → Bool
has_subjects relations policy =
    list_any (λ (shape : RoleShape). shape.number == 1 && (not shape.with_domain || list_any (bytes_eq (codes "dom")) policy)) relations

-- whether a model with these relations and policy columns may have the effect
abbrev pub may_have : List RoleShape → List (List ℕ) → Effect → Bool
may_have relations policy e.SubjectPriority = has_subjects relations policy
may_have relations policy effect = true

-- this effect, where a model with these relations and policy columns may have it
abbrev pub if_allowed : List RoleShape → List (List ℕ) → Effect → Option Effect
if_allowed relations policy effect = if may_have relations policy effect then Some effect else None

-- the effect that a text gives a model with these relations and policy columns
unfoldable pub model_effect : List RoleShape → List (List ℕ) → List ℕ → Option Effect
model_effect relations policy text = option_and_then (if_allowed relations policy) (effect_of text)
