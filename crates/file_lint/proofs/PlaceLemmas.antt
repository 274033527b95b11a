-- Lines, and the places in them, from one line to the next.
use Rattle.std.proofs.Common.{◌≡◌, ◌≢◌, ℕ, zero, suc, ◌+◌, ◌-◌, ◌<◌, ◌≤◌, Bool, true, false, cond, not, List, [], ◌∷◌, ◌++◌, length, take, drop, eq-eqb, refl, sym, ap, subst, ◌∙◌, arith}
use Rattle.std.specs.Prelude.{◌==◌, ◌&&◌, ◌||◌, nat_lt, if◌then◌else◌}
use Rattle.std.specs.Str.{bytes_eq}
use Rattle.std.proofs.lemmas.Bool.{ne_eqb}
use Rattle.std.proofs.lemmas.List.Sums.{prefix_len-drop_all}
use Rattle.text_parts.specs.Blanks.{is_blank}
use Rattle.text_parts.specs.Numbered.{Line, line, numbered, text_lines}
use Rattle.text_parts.specs.Passed.{is_passed_in_model}
use Rattle.file_lint.specs.Places.{behind_blanks_at, blanks_before, from_key, is_open, key_in, line_at, open_length, place, place_in, value_in}
use Rattle.file_lint.specs.Helps.Steps.{begins_with_key, goes_on}

-- `line_at`: no line, the line that is sought, and another one
pub line_at-none : (number : ℕ) → line_at number [] ≡ []
unfolding line_at
line_at-none number = refl

pub line_at-found : (number at : ℕ) (text : List ℕ) (others : List Line) → at ≡ number → line_at number (line at text ∷ others) ≡ text
unfolding line_at
line_at-found number at text others same = let e : (at == number) ≡ true = eq-eqb at number same in rw e refl

pub line_at-next : (number at : ℕ) (text : List ℕ) (others : List Line) → at ≢ number → line_at number (line at text ∷ others) ≡ line_at number others
unfolding line_at
line_at-next number at text others other = let e : (at == number) ≡ false = ne_eqb at number other in rw e refl

-- `from_key`: no line, the line that begins with the key, and another one
pub from_key-none : (key : List ℕ) (continued : Bool) → from_key key continued [] ≡ []
unfolding from_key
from_key-none key true = refl
from_key-none key false = refl

pub from_key-found : (key : List ℕ) (continued : Bool) (at : ℕ) (text : List ℕ) (others : List Line) → begins_with_key key continued text ≡ true → from_key key continued (line at text ∷ others) ≡ line at text ∷ others
unfolding from_key
from_key-found key true at text others e = absurd cc
from_key-found key false at text others e = by (is_passed_in_model text) (bytes_eq (key_in text) key) e
  where
    by : (passed same : Bool) → (not passed && same) ≡ true
        → (if passed then from_key key false others else if same then line at text ∷ others else from_key key (is_open text) others) ≡ line at text ∷ others
    by true same e = absurd cc
    by false true e = refl
    by false false e = absurd cc

pub from_key-next : (key : List ℕ) (continued : Bool) (at : ℕ) (text : List ℕ) (others : List Line) → begins_with_key key continued text ≡ false
    → from_key key continued (line at text ∷ others) ≡ from_key key (goes_on continued text) others
unfolding from_key
from_key-next key true at text others e = refl
from_key-next key false at text others e = by (is_passed_in_model text) (bytes_eq (key_in text) key) e
  where
    by : (passed same : Bool) → (not passed && same) ≡ false
        → (if passed then from_key key false others else if same then line at text ∷ others else from_key key (is_open text) others) ≡ from_key key (not passed && is_open text) others
    by true same e = refl
    by false true e = absurd cc
    by false false e = refl

-- `place_in`: no further line, a byte of the first line, and one behind it
pub place_in-last : (number : ℕ) (text : List ℕ) (before : ℕ) → place_in (line number text) [] before ≡ place number (before + 1)
unfolding place_in
place_in-last number text before = refl

pub place_in-here : (number : ℕ) (text : List ℕ) (next : Line) (others : List Line) (before : ℕ) → (is_open text && nat_lt (open_length text) before) ≡ false
    → place_in (line number text) (next ∷ others) before ≡ place number (before + 1)
unfolding place_in
place_in-here number text next others before e = rw e refl

pub place_in-next : (number : ℕ) (text : List ℕ) (next : Line) (others : List Line) (before : ℕ) → (is_open text && nat_lt (open_length text) before) ≡ true
    → place_in (line number text) (next ∷ others) before ≡ place_in next others (before - (open_length text + 1))
unfolding place_in
place_in-next number text next others before e = rw e refl

-- `value_in`: no further line, blanks to the `\` of the first line, and a byte that is none
pub value_in-last : (offset number : ℕ) (text : List ℕ) (before : ℕ) → value_in offset (line number text) [] before ≡ place_in (line number text) [] (behind_blanks_at offset text + before)
unfolding value_in
value_in-last offset number text before = refl

pub value_in-here : (offset number : ℕ) (text : List ℕ) (next : Line) (others : List Line) (before : ℕ) → (is_open text && behind_blanks_at offset text == open_length text) ≡ false
    → value_in offset (line number text) (next ∷ others) before ≡ place_in (line number text) (next ∷ others) (behind_blanks_at offset text + before)
unfolding value_in
value_in-here offset number text next others before e = rw e refl

pub value_in-next : (offset number : ℕ) (text : List ℕ) (next : Line) (others : List Line) (before : ℕ) → (is_open text && behind_blanks_at offset text == open_length text) ≡ true
    → value_in offset (line number text) (next ∷ others) before ≡ value_in 0 next others before
unfolding value_in
value_in-next offset number text next others before e = rw e refl

-- the lines of a text behind its first
pub numbered_first : (number : ℕ) (text first rest : List ℕ) → text_lines text ≡ first ∷ text_lines rest → numbered number (text_lines text) ≡ line number first ∷ numbered (number + 1) (text_lines rest)
numbered_first number text first rest e = ap (numbered number) e

pub numbered_none : (number : ℕ) (text : List ℕ) → text_lines text ≡ [] → numbered number (text_lines text) ≡ []
numbered_none number text e = ap (numbered number) e

-- behind a text stand no blanks
pub blanks_past : (text : List ℕ) (offset : ℕ) → length text ≤ offset → offset ≡ offset + blanks_before (drop offset text)
blanks_past text offset past = omega (arith, prefix_len-drop_all is_blank text offset past)
