-- What a decision is, and what a finder refused in it.
use Rattle.std.specs.Prelude.{◌≡◌, ◌⊎◌, ℕ, List, Option, Some, None, IfSome}
use Rattle.effect_fold.specs.declared.effect.Effect.{Effect}
use Rattle.effect_fold.specs.declared.effect.Effect.TheVariants as effect
use Rattle.effect_fold.specs.declared.verdict.Verdict.{Verdict}
use Rattle.model_conf.specs.ModelText.{ModelParts}
use Rattle.perm_base.specs.declared.shapes.Shapes.{Shapes}
use Rattle.perm_value.specs.Datum.{Datum}
use Rattle.policy_table.specs.Tables.{Policy}
use Rattle.regex_gate.specs.Refusals.{Refusals, RefusedOnly, IsRefused}
use Rattle.matcher_meaning.specs.Perm.{Refusal, refusal_fault}
use Rattle.matcher_meaning.specs.Verdicts.{IsVerdict}

-- what a finder refused in a decision: the pattern that is told and nothing else; under the priority of subjects, where every rule is evaluated, that pattern among others
abbrev pub RefusedIn : Effect → (before now : Refusals) → Option (List ℕ) → Type 0
RefusedIn effect.AllowOverride before now refused = RefusedOnly before now refused
RefusedIn effect.DenyOverride before now refused = RefusedOnly before now refused
RefusedIn effect.AllowAndDeny before now refused = RefusedOnly before now refused
RefusedIn effect.Priority before now refused = RefusedOnly before now refused
RefusedIn effect.SubjectPriority before now refused = IfSome refused (IsRefused before now)

-- the verdict where nothing is refused, and nothing was; or the fault of a search, where that search is refused, and its pattern was
abbrev pub IsJudgedWith : ModelParts → Shapes → Policy → List Datum → (Option (List ℕ) → Type 0) → Verdict → Type 0
IsJudgedWith model shapes policy request Refused v =
    (Refused None × IsVerdict model shapes policy request None v)
    ⊎ ((refusal : Refusal) × Refused (Some refusal.pattern) × (v ≡ refusal_fault refusal) × IsVerdict model shapes policy request (Some refusal) v)
