-- The errors of a model's text, the fault that `read_model` tells first; and the findings of a text.
use Rattle.std.specs.Prelude.{◌≡◌, ℕ, suc, ◌&&◌, ◌||◌, Bool, true, false, List, [], ◌∷◌, Some, None, Result, Ok, Err}
use Rattle.model_conf.specs.Faults.{IsModelFault}
use Rattle.model_conf.specs.ModelText.{IsModel, ModelParts}
use Rattle.model_conf.specs.declared.fault.ModelFault.{ModelFault}
use Rattle.model_conf.specs.declared.fault.ModelFault.TheVariants as fault
use Rattle.file_lint.specs.Findings.{in_order}
use Rattle.file_lint.specs.Mended.{MendedText, mended}
use Rattle.file_lint.specs.ModelWarnings.{model_warnings}
use Rattle.file_lint.specs.ModelWords.{error_of}
use Rattle.file_lint.specs.declared.finding.Finding.{Finding}

-- the greatest number of errors of a model that are told
abbrev pub most_errors : ℕ
most_errors = 1000

-- the fault says that a name is not declared so
abbrev pub is_of_names : ModelFault → Bool
is_of_names (fault.UnknownColumn at) = true
is_of_names (fault.RoleUse at) = true
is_of_names _ = false

abbrev pub is_hidden : Bool → ModelFault → Bool
is_hidden guessed first = guessed && is_of_names first

-- the errors of a text from its first fault on, so many at most: that fault, and those of the text in which it is taken away; where columns or shapes were guessed, nothing is told of names
pub data HasErrors : ℕ → Bool → List ℕ → ModelFault → List Finding → Type 0 where
  enough : {guessed : Bool} {bytes : List ℕ} {first : ModelFault} → HasErrors 0 guessed bytes first []
  hidden : {left : ℕ} {guessed : Bool} {bytes : List ℕ} {first : ModelFault} → is_hidden guessed first ≡ true → HasErrors (suc left) guessed bytes first []
  last : {left : ℕ} {guessed : Bool} {bytes : List ℕ} {first : ModelFault} → is_hidden guessed first ≡ false → mended first bytes ≡ None → HasErrors (suc left) guessed bytes first (error_of first bytes ∷ [])
  cleared : {left : ℕ} {guessed : Bool} {bytes : List ℕ} {first : ModelFault} (after : MendedText) (model : ModelParts) → is_hidden guessed first ≡ false → mended first bytes ≡ Some after → IsModel after.text model
      → HasErrors (suc left) guessed bytes first (error_of first bytes ∷ [])
  further : {left : ℕ} {guessed : Bool} {bytes : List ℕ} {first : ModelFault} {others : List Finding} (after : MendedText) (next : ModelFault) → is_hidden guessed first ≡ false → mended first bytes ≡ Some after
      → IsModelFault after.text next → HasErrors left (guessed || after.guessed) after.text next others → HasErrors (suc left) guessed bytes first (error_of first bytes ∷ others)

-- the findings of a text in the order of their places: the warnings of the model that it says, or its errors from the first fault on
abbrev pub LintsModel : List ℕ → Result ModelParts ModelFault → List Finding → Type 0
LintsModel bytes (Ok model) findings = IsModel bytes model × (findings ≡ in_order (model_warnings bytes model))
LintsModel bytes (Err first) findings = IsModelFault bytes first × ((errors : List Finding) × HasErrors most_errors false bytes first errors × (findings ≡ in_order errors))
