-- Answers as they are printed, and what they show.
use Rattle.std.specs.Prelude.{◌≡◌, ℕ, suc, List, [], ◌∷◌, ◌++◌, flat_map, length, map}
use Rattle.answer_lines.specs.LineText.{answer_text, numbered}
use Rattle.answer_lines.specs.declared.answer.Answer.{Answer}
use Rattle.answer_lines.specs.declared.answer.Answer.TheVariants as answer
use Rattle.answer_lines.specs.declared.answer.Line.{Line}
use Rattle.answer_lines.specs.declared.printed.Shown.{Shown}
use Rattle.answer_lines.specs.declared.printed.Shown.TheVariants as shown
use Rattle.answer_lines.specs.declared.printed_lines.PrintedLines.{PrintedLines}
use Rattle.effect_fold.specs.declared.verdict.Verdict.{Verdict}
use Rattle.effect_fold.specs.declared.verdict.Verdict.TheVariants as verdict

-- what a verdict over a policy of a version shows
abbrev pub shown_by_verdict : ℕ → Verdict → Shown
shown_by_verdict version (verdict.Allow row) = shown.Allow version
shown_by_verdict version (verdict.Deny row) = shown.Deny version
shown_by_verdict version (verdict.Fault row failed) = shown.Fault version

-- what an answer shows
abbrev pub shown_by : Answer → Shown
shown_by (answer.Decided version judged rule) = shown_by_verdict version judged
shown_by (answer.Truth truth) = shown.Truth truth
shown_by (answer.Published version) = shown.Published version
shown_by _ = shown.Other

-- an answer as it is printed, without the LF at its end, and what it shows
pub record PrintedAnswer : Type 0 where
  pub text : List ℕ
  pub shown : Shown

-- how an answer is printed
abbrev pub printed_answer : Answer → PrintedAnswer
printed_answer told = record { text = answer_text told; shown = shown_by told }

-- a line as it is printed
pub record PrintedLine : Type 0 where
  pub number : ℕ
  pub answer : PrintedAnswer

abbrev pub printed_line : Line → PrintedLine
printed_line line = record { number = line.number; answer = printed_answer line.answer }

-- ---- lines one behind the other

-- their text, and what each shows
abbrev pub text_of : List PrintedLine → List ℕ
text_of lines = flat_map (λ (line : PrintedLine). numbered line.number line.answer.text) lines

abbrev pub shown_of : List PrintedLine → List Shown
shown_of lines = map (λ (line : PrintedLine). line.answer.shown) lines

-- these are the lines that are printed
pub record ArePrinted (lines : List PrintedLine) (printed : PrintedLines) : Type 0 where
  pub text : printed.text.items ≡ text_of lines
  pub shown : printed.shown.items ≡ shown_of lines

-- a line more, that tells this with this number
pub record AddsLine (number : ℕ) (told : List ℕ) (shows : Shown) (old new : PrintedLines) : Type 0 where
  pub text : new.text.items ≡ old.text.items ++ numbered number told
  pub shown : new.shown.items ≡ old.shown.items ++ shows ∷ []

-- the lines of answers, numbered from this on
abbrev pub lines_from : ℕ → List PrintedAnswer → List PrintedLine
lines_from number [] = []
lines_from number (answer ∷ answers) = record { number = number; answer = answer } ∷ lines_from (suc number) answers

-- these lines stand behind others
pub record AddsLines (lines : List PrintedLine) (old new : PrintedLines) : Type 0 where
  pub text : new.text.items ≡ old.text.items ++ text_of lines
  pub shown : new.shown.items ≡ old.shown.items ++ shown_of lines

-- so many of the first answers are taken out, and their lines, numbered from this on, stand behind others
pub record AreTakenOut (count number : ℕ) (old new : List PrintedAnswer) (before after : PrintedLines) : Type 0 where
  pub answers : List PrintedAnswer
  pub parts : old ≡ answers ++ new
  pub long : length answers ≡ count
  pub lines : AddsLines (lines_from number answers) before after
