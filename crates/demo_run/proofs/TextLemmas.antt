-- Lines for each number below one, and the summary, piece by piece.
use Rattle.std.proofs.Common.{◌≡◌, ℕ, ◌+◌, List, [], ◌++◌, add-one, append_assoc, sym, ap, ◌∙◌}
use Rattle.std.specs.Prelude.{String, string_bytes}
use Rattle.std.specs.declared.alloc.Global.{Global}
use Rattle.answer_lines.specs.LineText.{Appends}
use Rattle.demo_run.specs.DemoTexts.{lines_below}
use Rattle.demo_run.specs.Summary.{head_text, tally_text, truths_text, verdicts_text}
use Rattle.demo_run.specs.declared.counts.Counts.{Counts}

-- one number more
next_below : (line : ℕ → List ℕ) (number : ℕ) → lines_below line (number + 1) ≡ lines_below line number ++ line number
next_below line number = ap (lines_below line) (add-one number)

pub below_more : (line : ℕ → List ℕ) (number : ℕ) (old mid new : String Global) → Appends old mid (lines_below line number) → Appends mid new (line number) → Appends old new (lines_below line (number + 1))
below_more line number old mid new so more =
    more ∙ ap (λ (l : List ℕ). l ++ line number) so ∙ append_assoc (string_bytes old) (lines_below line number) (line number) ∙ ap (λ (l : List ℕ). string_bytes old ++ l) (sym (next_below line number))

-- the pieces of the summary, one behind the other
pub summed : (count items : ℕ) (counts : Counts) (empty one two three : String Global) → string_bytes empty ≡ [] → Appends empty one (head_text count items) → Appends one two (verdicts_text counts) → Appends two three (truths_text counts) → string_bytes three ≡ tally_text count items counts
summed count items counts empty one two three none head verdicts truths =
    truths ∙ ap (λ (l : List ℕ). l ++ truths_text counts) (verdicts ∙ ap (λ (l : List ℕ). l ++ verdicts_text counts) (head ∙ ap (λ (l : List ℕ). l ++ head_text count items) none))
