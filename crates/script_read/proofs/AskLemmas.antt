-- The line of a request that is told by its first bytes.
use Rattle.std.proofs.Common.{◌≡◌, ℕ, ◌+◌, ◌≤◌, ◌&&◌, true, false, List, [], ◌∷◌, ◌++◌, append_assoc, drop, get_or, length, map, refl, sym, ap, subst, ◌∙◌, arith}
use Rattle.std.specs.Prelude.{bytes_eq, codes}
use Rattle.std.specs.List.{onto_first}
use Rattle.std.specs.Str.{IsCharBoundary}
use Rattle.std.proofs.lemmas.List.Folds.{list_all-append}
use Rattle.std.proofs.lemmas.Str.{IsCharBoundary-before_ascii}
use Rattle.script_read.specs.Helps.Asks.{AreBehindAsked, BeginsAsk, IsAskedLine, is_asked}
use Rattle.script_read.specs.Lines.{behind_word, word_of}
use Rattle.text_parts.specs.Full.{full_lines}
use Rattle.text_parts.specs.Lines.{lines_of, without_cr}
use Rattle.text_parts.specs.Numbered as numbered
use Rattle.text_parts.specs.Numbered.{text_lines}
use Rattle.text_parts.specs.Passed.{is_passed}

-- by its first bytes
pub asked_front : (bytes line : List ℕ) → bytes ≡ line → 4 ≤ length bytes → get_or bytes 0 0 ≡ 97 → get_or bytes 1 0 ≡ 115 → get_or bytes 2 0 ≡ 107 → get_or bytes 3 0 ≡ 32 → BeginsAsk line
asked_front (a ∷ s ∷ k ∷ blank ∷ rest) line same long one two three four = record { rest = rest; is = sym same ∙ (λ j. one j ∷ two j ∷ three j ∷ four j ∷ rest) }
asked_front [] line same long one two three four = absurd (omega (arith, long))
asked_front (a ∷ []) line same long one two three four = absurd (omega (arith, long))
asked_front (a ∷ s ∷ []) line same long one two three four = absurd (omega (arith, long))
asked_front (a ∷ s ∷ k ∷ []) line same long one two three four = absurd (omega (arith, long))

-- the first line of a text that begins so does
abbrev first_of : List (List ℕ) → List ℕ
first_of [] = []
first_of (line ∷ lines) = line

first_begins : (lines : List (List ℕ)) (line : List ℕ) (others : List (List ℕ)) → map without_cr (onto_first 97 (onto_first 115 (onto_first 107 (onto_first 32 lines)))) ≡ line ∷ others → BeginsAsk line
first_begins [] line others is = record { rest = []; is = sym (ap first_of is) }
first_begins ([] ∷ lines) line others is = record { rest = []; is = sym (ap first_of is) }
first_begins ((byte ∷ bytes) ∷ lines) line others is = record { rest = without_cr (byte ∷ bytes); is = sym (ap first_of is) }

pub line_begins : (text line : List ℕ) (others : List (List ℕ)) → BeginsAsk text → text_lines text ≡ line ∷ others → BeginsAsk line
unfolding text_lines lines_of
line_begins text line others begins is = first_begins (lines_of begins.rest) line others (sym (ap text_lines begins.is) ∙ is)

-- the first line, cut off with its CR, and then without
pub cut_first : (text whole line after : List ℕ) → lines_of text ≡ whole ∷ lines_of after → line ≡ without_cr whole → text_lines text ≡ line ∷ text_lines after
unfolding text_lines
cut_first text whole line after first is = ap (map without_cr) first ∙ ap (λ (l : List ℕ). l ∷ text_lines after) (sym is)

-- its word, and what stands behind it
pub asked_word : (line : List ℕ) → BeginsAsk line → word_of line ≡ codes "ask"
asked_word line begins = ap word_of begins.is

pub asked_test : (line : List ℕ) → BeginsAsk line → true ≡ bytes_eq (word_of line) (codes "ask")
asked_test line begins = sym (ap (λ (w : List ℕ). bytes_eq w (codes "ask")) (asked_word line begins))

pub asked_behind : (line : List ℕ) → BeginsAsk line → drop 3 line ≡ behind_word line
asked_behind line begins = ap (drop 3) begins.is ∙ sym (ap behind_word begins.is)

pub asked_boundary : (line : List ℕ) → BeginsAsk line → IsCharBoundary line 3
asked_boundary line begins = subst (λ (l : List ℕ). IsCharBoundary l 3) (sym begins.is) (IsCharBoundary-before_ascii (codes "ask " ++ begins.rest) 3 (omega arith) (omega arith))

-- it counts, and is the first that does
full_first : (number : ℕ) (text line after : List ℕ) → text_lines text ≡ line ∷ text_lines after → is_passed line ≡ false → full_lines number text ≡ numbered.line number line ∷ full_lines (number + 1) after
unfolding full_lines
full_first number text line after lines counts = rw (lines, counts) refl

pub asked_first : (number : ℕ) (text line after : List ℕ) → IsAskedLine text line after → full_lines number text ≡ numbered.line number line ∷ full_lines (number + 1) after
asked_first number text line after is = full_first number text line after is.lines (ap is_passed is.begins.is)

-- one more line of a request in front
pub one_asked : (lines others left : List numbered.Line) (line : numbered.Line) → AreBehindAsked lines others → others ≡ line ∷ left → is_asked line ≡ true → AreBehindAsked lines left
one_asked lines others left line so first is = record {
  asked = so.asked ++ line ∷ [];
  parts = so.parts ∙ ap (λ (l : List numbered.Line). so.asked ++ l) first ∙ sym (append_assoc so.asked (line ∷ []) left);
  are_asked = list_all-append is_asked so.asked (line ∷ []) ∙ (λ j. so.are_asked j && (is j && true));
}
