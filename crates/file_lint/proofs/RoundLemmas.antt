-- The rounds in which the errors of a text are told.
use Rattle.std.proofs.Common.{◌≡◌, ℕ, suc, ◌+◌, ◌-◌, ◌<◌, Bool, true, false, List, [], ◌∷◌, ◌++◌, Some, None, inl, inr, refl, sym, ap, subst, ◌∙◌, arith}
use Rattle.std.specs.Prelude.{◌||◌, IsUtf8}
use Rattle.std.proofs.lemmas.List.{append_assoc}
use Rattle.model_conf.specs.Faults.{IsModelFault}
use Rattle.model_conf.specs.Faults.IsModelFault.{at_line, behind_lines, not_utf8, too_long}
use Rattle.model_conf.specs.ModelText.{IsModel, ModelParts}
use Rattle.model_conf.specs.declared.fault.ModelFault.{ModelFault}
use Rattle.file_lint.specs.Mended.{MendedText, mended}
use Rattle.file_lint.specs.ModelErrors.{HasErrors, is_hidden}
use Rattle.file_lint.specs.ModelErrors.HasErrors.{cleared, enough, further, hidden, last}
use Rattle.file_lint.specs.ModelWords.{error_of}
use Rattle.file_lint.specs.declared.finding.Finding.{Finding}
use Rattle.file_lint.specs.Helps.Rounds.{IsOfBytes}

-- a number above 0 is one more than the number before it
one_before : (left : ℕ) → 0 < left → suc (left - 1) ≡ left
one_before left some = omega arith

-- what the rounds so far say of any end
abbrev pub Goes : (found : List Finding) → (Told : List Finding → Type 0) → (HasNow : List Finding → Type 0) → Type 0
Goes found Told HasNow = (others : List Finding) → HasNow others → Told (found ++ others)

pub told_hidden : (left : ℕ) (guessed : Bool) (bytes : List ℕ) (first : ModelFault) → 0 < left → is_hidden guessed first ≡ true → HasErrors left guessed bytes first []
told_hidden left guessed bytes first some is = subst (λ (n : ℕ). HasErrors n guessed bytes first []) (one_before left some) (hidden is)

pub told_last : (left : ℕ) (guessed : Bool) (bytes : List ℕ) (first : ModelFault) → 0 < left → is_hidden guessed first ≡ false → mended first bytes ≡ None → HasErrors left guessed bytes first (error_of first bytes ∷ [])
told_last left guessed bytes first some shown none = subst (λ (n : ℕ). HasErrors n guessed bytes first (error_of first bytes ∷ [])) (one_before left some) (last shown none)

pub told_cleared : (left : ℕ) (guessed : Bool) (bytes : List ℕ) (first : ModelFault) (after : MendedText) (model : ModelParts) → 0 < left → is_hidden guessed first ≡ false → mended first bytes ≡ Some after → IsModel after.text model
    → HasErrors left guessed bytes first (error_of first bytes ∷ [])
told_cleared left guessed bytes first after model some shown made is =
    subst (λ (n : ℕ). HasErrors n guessed bytes first (error_of first bytes ∷ [])) (one_before left some) (cleared after model shown made is)

pub told_further : (left : ℕ) (guessed : Bool) (bytes : List ℕ) (first : ModelFault) (after : MendedText) (next : ModelFault) (others : List Finding) → 0 < left → is_hidden guessed first ≡ false → mended first bytes ≡ Some after
    → IsModelFault after.text next → HasErrors (left - 1) (guessed || after.guessed) after.text next others → HasErrors left guessed bytes first (error_of first bytes ∷ others)
told_further left guessed bytes first after next others some shown made is rest =
    subst (λ (n : ℕ). HasErrors n guessed bytes first (error_of first bytes ∷ others)) (one_before left some) (further after next shown made is rest)

pub told_enough : (left : ℕ) (guessed : Bool) (bytes : List ℕ) (first : ModelFault) → left ≡ 0 → HasErrors left guessed bytes first []
told_enough left guessed bytes first none = subst (λ (n : ℕ). HasErrors n guessed bytes first []) (sym none) enough

-- no round yet
pub goes_begin : (found : List Finding) (Told : List Finding → Type 0) → found ≡ [] → Goes found Told Told
goes_begin found Told none = λ others is. subst (λ (l : List Finding). Told (l ++ others)) (sym none) is

-- one round more: what holds of any end holds of any end behind the error that was pushed
pub goes_further : (found now : List Finding) (error : Finding) (Told HasOld HasNow : List Finding → Type 0) → now ≡ found ++ error ∷ [] → ((others : List Finding) → HasNow others → HasOld (error ∷ others))
    → Goes found Told HasOld → Goes now Told HasNow
goes_further found now error Told HasOld HasNow grown step goes = λ others is.
    subst (λ (l : List Finding). Told (l ++ others)) (sym grown) (subst Told (sym (append_assoc found (error ∷ []) others)) (goes (error ∷ others) (step others is)))

-- where nothing is guessed, the first fault is told first
pub errors_begin : (left : ℕ) (bytes : List ℕ) (first : ModelFault) (errors : List Finding) → HasErrors (suc left) false bytes first errors → (others : List Finding) × (errors ≡ error_of first bytes ∷ others)
errors_begin left bytes first errors (hidden is) = absurd cc
errors_begin left bytes first errors (last shown none) = ([], refl)
errors_begin left bytes first errors (cleared after model shown made is) = ([], refl)
errors_begin left bytes first errors (further after next shown made is rest) = (_, refl)

-- a text that is not UTF-8 has a fault of its bytes
pub of_bytes : (bytes : List ℕ) (first : ModelFault) → IsModelFault bytes first → ¬ (IsUtf8 bytes) → IsOfBytes first
of_bytes bytes first (too_long long) never = inl refl
of_bytes bytes first (not_utf8 few bad) never = inr refl
of_bytes bytes first (at_line statements text is) never = absurd (never text.utf8)
of_bytes bytes first (behind_lines statements text none is) never = absurd (never text.utf8)

-- such a fault is told by the same words of all bytes, and nothing takes it away
told_of_bytes : (first : ModelFault) (bytes : List ℕ) → IsOfBytes first → error_of first bytes ≡ error_of first []
unfolding error_of
told_of_bytes first bytes (inl is) = subst (λ (f : ModelFault). error_of f bytes ≡ error_of f []) (sym is) refl
told_of_bytes first bytes (inr is) = subst (λ (f : ModelFault). error_of f bytes ≡ error_of f []) (sym is) refl

kept_of_bytes : (first : ModelFault) (bytes : List ℕ) → IsOfBytes first → mended first bytes ≡ None
unfolding mended
kept_of_bytes first bytes (inl is) = subst (λ (f : ModelFault). mended f bytes ≡ None) (sym is) refl
kept_of_bytes first bytes (inr is) = subst (λ (f : ModelFault). mended f bytes ≡ None) (sym is) refl

pub only_one : (left : ℕ) (first : ModelFault) (errors : List Finding) → IsOfBytes first → errors ≡ error_of first [] ∷ [] → (bytes : List ℕ) → HasErrors (suc left) false bytes first errors
only_one left first errors is are bytes =
    subst (HasErrors (suc left) false bytes first) (ap (λ (f : Finding). f ∷ []) (told_of_bytes first bytes is) ∙ sym are) (last refl (kept_of_bytes first bytes is))
