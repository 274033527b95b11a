-- The parts of lines, from the first: a block reaches to the first line that ends it.
use Rattle.std.proofs.Common.{◌≡◌, ℕ, ◌+◌, Bool, true, false, cond, List, [], ◌∷◌, ◌++◌, append_assoc, append-nil, Some, None, refl, sym, ap, ◌∙◌}
use Rattle.script_read.specs.Blocks.{block, parts, parts_inside, single}
use Rattle.script_read.specs.Helps.Ends.{before_end, behind_end, behind_part, end_number, first_part}
use Rattle.script_read.specs.Lines.{begins_block, ends_block}
use Rattle.text_parts.specs.Full.{full_lines}
use Rattle.text_parts.specs.Lines.{lines_of}
use Rattle.text_parts.specs.Numbered.{Line, line, text_lines}

inside_at : (begin : Line) (inside : List Line) (first : Line) (lines : List Line) (ends : Bool)
    → ((more : List Line) → parts_inside begin more lines ≡ block begin (more ++ before_end lines) (end_number lines) ∷ parts (behind_end lines))
    → cond ends (block begin inside (Some first.number) ∷ parts lines) (parts_inside begin (inside ++ first ∷ []) lines)
    ≡ block begin (inside ++ cond ends [] (first ∷ before_end lines)) (cond ends (Some first.number) (end_number lines)) ∷ parts (cond ends lines (behind_end lines))
inside_at begin inside first lines true rest = ap (λ (l : List Line). block begin l (Some first.number) ∷ parts lines) (sym (append-nil inside))
inside_at begin inside first lines false rest =
    rest (inside ++ first ∷ []) ∙ ap (λ (l : List Line). block begin l (end_number lines) ∷ parts (behind_end lines)) (append_assoc inside (first ∷ []) (before_end lines))

pub inside_is : (begin : Line) (inside lines : List Line) → parts_inside begin inside lines ≡ block begin (inside ++ before_end lines) (end_number lines) ∷ parts (behind_end lines)
unfolding before_end end_number behind_end
inside_is begin inside [] = ap (λ (l : List Line). block begin l None ∷ []) (sym (append-nil inside))
inside_is begin inside (first ∷ lines) = inside_at begin inside first lines (ends_block first.text) (λ more. inside_is begin more lines)

-- the first part, and those behind it
pub parts_first : (first : Line) (lines : List Line) → parts (first ∷ lines) ≡ first_part first lines ∷ parts (behind_part first.text lines)
parts_first first lines = by (begins_block first.text)
  where
    by : (begins : Bool) → cond begins (parts_inside first [] lines) (single first ∷ parts lines) ≡ cond begins (block first (before_end lines) (end_number lines)) (single first) ∷ parts (cond begins (behind_end lines) lines)
    by true = inside_is first [] lines
    by false = refl

-- ---- the first line of a text

module _ (number at : ℕ) (text rest after : List ℕ) (first : full_lines number text ≡ line at rest ∷ full_lines (at + 1) after) where
  -- it ends the block
  pub before_here : ends_block rest ≡ true → before_end (full_lines number text) ≡ []
  unfolding before_end
  before_here ends = rw (first, ends) refl

  pub number_here : ends_block rest ≡ true → end_number (full_lines number text) ≡ Some at
  unfolding end_number
  number_here ends = rw (first, ends) refl

  pub behind_here : ends_block rest ≡ true → behind_end (full_lines number text) ≡ full_lines (at + 1) after
  unfolding behind_end
  behind_here ends = rw (first, ends) refl

  -- the block goes on
  pub before_on : ends_block rest ≡ false → before_end (full_lines number text) ≡ line at rest ∷ before_end (full_lines (at + 1) after)
  unfolding before_end
  before_on goes = rw (first, goes) refl

  pub number_on : ends_block rest ≡ false → end_number (full_lines number text) ≡ end_number (full_lines (at + 1) after)
  unfolding end_number
  number_on goes = rw (first, goes) refl

  pub behind_on : ends_block rest ≡ false → behind_end (full_lines number text) ≡ behind_end (full_lines (at + 1) after)
  unfolding behind_end
  behind_on goes = rw (first, goes) refl

-- no line is left
pub before_none : (lines : List Line) → lines ≡ [] → before_end lines ≡ []
unfolding before_end
before_none lines none = rw none refl

pub number_none : (lines : List Line) → lines ≡ [] → end_number lines ≡ None
unfolding end_number
number_none lines none = rw none refl

pub behind_none : (lines : List Line) → lines ≡ [] → behind_end lines ≡ []
unfolding behind_end
behind_none lines none = rw none refl

no_lines : (number : ℕ) → full_lines number [] ≡ []
unfolding full_lines text_lines lines_of
no_lines number = refl

-- nothing stands behind a block that is never ended
pub behind_all : (begin : List ℕ) (number : ℕ) (text : List ℕ) → begins_block begin ≡ true → behind_end (full_lines number text) ≡ [] → behind_part begin (full_lines number text) ≡ full_lines number []
behind_all begin number text begins none = rw begins (none ∙ sym (no_lines number))
