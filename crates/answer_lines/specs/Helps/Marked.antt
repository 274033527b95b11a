-- Answers whose lines stand one behind the other, by how long each is and which number it has.
use Rattle.std.specs.Prelude.{◌≡◌, ◌≤◌, ◌+◌, ◌-◌, ⊤, ℕ, zero, suc, List, [], ◌∷◌, decimal, drop, length, take}
use Rattle.answer_lines.specs.LineText.{numbered}
use Rattle.answer_lines.specs.Printed.{PrintedAnswer}
use Rattle.answer_lines.specs.declared.kept.Mark.{Mark}
use Rattle.answer_lines.specs.declared.printed.Shown.{Shown}

-- an answer of this text that shows this
abbrev pub answer_of : List ℕ → Shown → PrintedAnswer
answer_of text shown = record { text = text; shown = shown }

-- what is told in a line with this number, between its blank and its LF
abbrev pub told_in : ℕ → List ℕ → List ℕ
told_in number line = take (length line - (length (decimal number) + 2)) (drop (length (decimal number) + 1) line)

-- a line with this number tells what stands in it
abbrev pub TellsLine : ℕ → List ℕ → Type 0
TellsLine number line = line ≡ numbered number (told_in number line)

abbrev pub shown_by_mark : Mark → Shown
shown_by_mark mark = mark.shown

-- the answers of these marks, out of their lines
abbrev pub marked : List Mark → List ℕ → List PrintedAnswer
marked [] text = []
marked (mark ∷ marks) text = answer_of (told_in mark.number (take mark.size text)) mark.shown ∷ marked marks (drop mark.size text)

-- how long they are together
abbrev pub size_of : List Mark → ℕ
size_of [] = 0
size_of (mark ∷ marks) = mark.size + size_of marks

-- a text is the lines of these marks
abbrev pub AreLines : List Mark → List ℕ → Type 0
AreLines [] text = text ≡ []
AreLines (mark ∷ marks) text = (mark.size ≤ length text) × TellsLine mark.number (take mark.size text) × AreLines marks (drop mark.size text)

-- so many of the first marks have this number and those behind it
abbrev pub IsRun : ℕ → ℕ → List Mark → Type 0
IsRun number zero marks = ⊤
IsRun number (suc count) [] = ⊥
IsRun number (suc count) (mark ∷ marks) = (mark.number ≡ number) × IsRun (suc number) count marks

-- behind the bytes and the marks that were taken out stand the lines of the other marks
pub record AreMarked (from taken : ℕ) (texts : List ℕ) (marks : List Mark) : Type 0 where
  pub few : taken ≤ length marks
  pub within : from ≤ length texts
  pub lines : AreLines (drop taken marks) (drop from texts)
