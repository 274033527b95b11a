-- What is judged is the verdict, or the fault of a search that counts as refused.
use Rattle.std.proofs.Common.{◌≡◌, inl, inr, false, true≢false, ℕ, List, None, sym, ap, ◌∙◌}
use Rattle.effect_fold.specs.declared.verdict.Verdict.{Verdict}
use Rattle.model_conf.specs.ModelText.{ModelParts}
use Rattle.perm_base.specs.declared.shapes.Shapes.{Shapes}
use Rattle.perm_value.specs.Datum.{Datum}
use Rattle.policy_table.specs.Tables.{Policy}
use Rattle.matcher_meaning.specs.Perm.{is_refusal}
use Rattle.matcher_meaning.specs.Verdicts.{IsJudged, IsVerdict}

pub judged_unless_refused : (model : ModelParts) (shapes : Shapes) (policy : Policy) (request : List Datum) (IsBad : List ℕ → Type 0) (v : Verdict)
    → is_refusal v ≡ false → IsJudged model shapes policy request IsBad v → IsVerdict model shapes policy request None v
judged_unless_refused model shapes policy request IsBad v no_refusal (inl is) = is
judged_unless_refused model shapes policy request IsBad v no_refusal (inr (refusal, bad, fault, is)) = absurd (true≢false (sym (ap is_refusal fault) ∙ no_refusal))

pub judged_by_fewer : (model : ModelParts) (shapes : Shapes) (policy : Policy) (request : List Datum) (IsBad IsWorse : List ℕ → Type 0) (v : Verdict)
    → ((pattern : List ℕ) → IsBad pattern → IsWorse pattern) → IsJudged model shapes policy request IsBad v → IsJudged model shapes policy request IsWorse v
judged_by_fewer model shapes policy request IsBad IsWorse v worse (inl is) = inl is
judged_by_fewer model shapes policy request IsBad IsWorse v worse (inr (refusal, bad, fault, is)) = inr (refusal, worse refusal.pattern bad, fault, is)

pub judged_by_none : (model : ModelParts) (shapes : Shapes) (policy : Policy) (request : List Datum) (IsBad : List ℕ → Type 0) (v : Verdict)
    → ((pattern : List ℕ) → IsBad pattern → ⊥) → IsJudged model shapes policy request IsBad v → IsVerdict model shapes policy request None v
judged_by_none model shapes policy request IsBad v none (inl is) = is
judged_by_none model shapes policy request IsBad v none (inr (refusal, bad, fault, is)) = absurd (none refusal.pattern bad)
