-- Logical lines: a line that is not passed over, with the lines that continue it (Casbin, model syntax).
use Rattle.std.specs.Prelude.{◌≡◌, ℕ, true, false, List, [], ◌∷◌, ◌++◌}
use Rattle.text_parts.specs.Blanks.{AreBlanks}
use Rattle.text_parts.specs.Numbered.{Line, line}
use Rattle.text_parts.specs.Passed.{is_passed_in_model}

-- the text ends in `\`, blanks behind it apart, and this stands before the `\`
pub record EndsOpen (text front : List ℕ) : Type 0 where
  pub blanks : List ℕ
  pub blank : AreBlanks blanks
  pub spelled : text ≡ front ++ 92 ∷ blanks

-- a text is continued by the lines behind it as long as it ends in `\`: then the `\` is dropped, and one blank and the next line follow;
-- at the end of the lines the `\` is just dropped. What comes of it is the whole text and the lines that are left.
pub data IsWhole : List ℕ → List Line → List ℕ → List Line → Type 0 where
  ended : {text : List ℕ} {lines : List Line} → ((front : List ℕ) → ¬ (EndsOpen text front)) → IsWhole text lines text lines
  continued : {text : List ℕ} {next : Line} {lines : List Line} {whole : List ℕ} {left : List Line} (front : List ℕ) → EndsOpen text front
      → IsWhole (front ++ 32 ∷ next.text) lines whole left → IsWhole text (next ∷ lines) whole left
  dropped : {text whole : List ℕ} (front : List ℕ) → EndsOpen text front → IsWhole front [] whole [] → IsWhole text [] whole []

-- the lines, without those that are passed over, each with those that continue it, under the number of the first
pub data AreLogical : List Line → List Line → Type 0 where
  no_line : AreLogical [] []
  passed : {first : Line} {lines logical : List Line} → is_passed_in_model first.text ≡ true → AreLogical lines logical → AreLogical (first ∷ lines) logical
  begun : {first : Line} {lines left logical : List Line} {whole : List ℕ} → is_passed_in_model first.text ≡ false → IsWhole first.text lines whole left
      → AreLogical left logical → AreLogical (first ∷ lines) (line first.number whole ∷ logical)
