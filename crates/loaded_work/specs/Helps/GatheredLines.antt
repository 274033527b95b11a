-- Lines that are gathered as a text, and pushed together.
use Rattle.std.specs.Prelude.{◌≡◌, ◌⊎◌, ◌≤◌, ℕ, List, [], ◌++◌, Option}
use Rattle.answer_lines.specs.declared.answer.Line.{Line}
use Rattle.outside.specs.Told.{with_back}
use Rattle.loaded_work.specs.Texts.{text_of_lines}

-- all that was gathered was pushed, and nothing is left of it; or nothing was pushed
abbrev pub Moves : (before now : Option (List ℕ)) → (old new : List ℕ) → Type 0
Moves before now old new = ((now ≡ with_back before old) × (new ≡ [])) ⊎ ((now ≡ before) × (new ≡ old))

-- of these lines the first ones were pushed, and the others are gathered
pub record AreGathered (before now : Option (List ℕ)) (gathered : List ℕ) (lines : List Line) (faults_before faults_now : ℕ) : Type 0 where
  pub pushed : List Line
  pub waiting : List Line
  pub parts : lines ≡ pushed ++ waiting
  pub took : now ≡ with_back before (text_of_lines pushed)
  pub text : gathered ≡ text_of_lines waiting
  pub counted : faults_before ≤ faults_now
