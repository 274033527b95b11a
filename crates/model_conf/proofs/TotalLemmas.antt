-- Every line says something, and every text has logical lines.
use Rattle.std.proofs.Common.{◌≡◌, ℕ, zero, suc, ◌<◌, ◌≤◌, ◌⊎◌, inl, inr, Bool, true, false, List, [], ◌∷◌, ◌++◌, length, eqb, None, refl, ap, ◌∙◌, arith}
use Rattle.std.proofs.lemmas.Bool.{eqb-true, eqb-false}
use Rattle.std.proofs.lemmas.List.{length-append}
use Rattle.text_parts.specs.Lines.{has_byte}
use Rattle.text_parts.specs.Blanks.{before_blanks, trimmed}
use Rattle.text_parts.specs.Numbered.{Line, line}
use Rattle.text_parts.specs.Passed.{is_passed_in_model}
use Rattle.model_conf.specs.Logical.{EndsOpen, IsWhole, ended, continued, dropped, AreLogical, no_line, passed, begun}
use Rattle.model_conf.specs.Statements.{LineContent, header, pair, nothing, IsNoHeader, Says, as_header, as_pair, as_nothing, LineSays, Statement, statement, AllSay, no_more, one_more, AreStatements}
use Rattle.model_conf.proofs.OpenLemmas.{before_open, ends_open}
use Rattle.model_conf.proofs.CommentLemmas.{uncommented, uncommented_is}

-- ---- the last byte

abbrev EndsIn : ℕ → List ℕ → Type 0
EndsIn byte text = ((front : List ℕ) × (text ≡ front ++ byte ∷ [])) ⊎ ((front : List ℕ) → ¬ (text ≡ front ++ byte ∷ []))

last_one : (byte only : ℕ) (test : Bool) → eqb only byte ≡ test → EndsIn byte (only ∷ [])
last_one byte only true e = inl ([], ap (λ (b : ℕ). b ∷ []) (eqb-true only byte e))
last_one byte only false e = inr (differs byte only e)
  where
    differs : (byte only : ℕ) → eqb only byte ≡ false → (front : List ℕ) → ¬ (only ∷ [] ≡ front ++ byte ∷ [])
    differs byte only e [] same = eqb-false only byte e cc
    differs byte only e (first ∷ []) same = absurd cc
    differs byte only e (first ∷ next ∷ front) same = absurd cc

ends_longer : (byte first : ℕ) (text : List ℕ) → 0 < length text → EndsIn byte text → EndsIn byte (first ∷ text)
ends_longer byte first text some (inl is) = inl (first ∷ is.0, ap (λ (t : List ℕ). first ∷ t) is.1)
ends_longer byte first text some (inr none) = inr (later byte first text some none)
  where
    later : (byte first : ℕ) (text : List ℕ) → 0 < length text → ((front : List ℕ) → ¬ (text ≡ front ++ byte ∷ [])) → (front : List ℕ) → ¬ (first ∷ text ≡ front ++ byte ∷ [])
    later byte first [] some none front same = absurd (omega arith)
    later byte first (b ∷ text) some none [] same = absurd cc
    later byte first (b ∷ text) some none (f ∷ front) same = none front cc

ends_in : (byte : ℕ) (text : List ℕ) → EndsIn byte text
ends_in byte [] = inr (λ front same. nothing_there byte front same)
  where
    nothing_there : (byte : ℕ) (front : List ℕ) → ¬ ([] ≡ front ++ byte ∷ [])
    nothing_there byte [] same = absurd cc
    nothing_there byte (f ∷ front) same = absurd cc
ends_in byte (first ∷ []) = last_one byte first (eqb first byte) refl
ends_in byte (first ∷ next ∷ text) = ends_longer byte first (next ∷ text) (omega arith) (ends_in byte (next ∷ text))

-- ---- what a text says

abbrev IsHeader : List ℕ → Type 0
IsHeader text = ((name : List ℕ) × (text ≡ 91 ∷ name ++ 93 ∷ [])) ⊎ IsNoHeader text

header_by : (first : ℕ) (text : List ℕ) (test : Bool) → eqb first 91 ≡ test → EndsIn 93 text → IsHeader (first ∷ text)
header_by first text true e (inl is) = inl (is.0, ap (λ (t : List ℕ). first ∷ t) is.1 ∙ ap (λ (b : ℕ). b ∷ is.0 ++ 93 ∷ []) (eqb-true first 91 e))
header_by first text true e (inr none) = inr (λ name same. none name cc)
header_by first text false e is = inr (λ name same. eqb-false first 91 e cc)

header_or : (text : List ℕ) → IsHeader text
header_or [] = inr (λ name same. absurd cc)
header_or (first ∷ text) = header_by first text (eqb first 91) refl (ends_in 93 text)

-- the first `=`, if there is one
abbrev IsCut : List ℕ → Type 0
IsCut text = ((key : List ℕ) × (value : List ℕ) × (has_byte 61 key ≡ false) × (text ≡ key ++ 61 ∷ value)) ⊎ (has_byte 61 text ≡ false)

cut_by : (first : ℕ) (text : List ℕ) (test : Bool) → eqb first 61 ≡ test → IsCut text → IsCut (first ∷ text)
cut_by first text true e is = inl ([], text, refl, ap (λ (b : ℕ). b ∷ text) (eqb-true first 61 e))
cut_by first text false e (inl is) = inl (first ∷ is.0, is.1, rw (e, is.2) refl, ap (λ (t : List ℕ). first ∷ t) is.3)
cut_by first text false e (inr none) = inr (rw (e, none) refl)

cut_or : (text : List ℕ) → IsCut text
cut_or [] = inr refl
cut_or (first ∷ text) = cut_by first text (eqb first 61) refl (cut_or text)

says_by : (text : List ℕ) → IsHeader text → IsCut text → (said : LineContent) × Says text said
says_by text (inl is) cut = (header is.0, as_header is.0 is.1)
says_by text (inr none) (inl is) = (pair (trimmed is.0) (trimmed is.1), as_pair is.0 is.1 none is.2 is.3)
says_by text (inr none) (inr no_sign) = (nothing, as_nothing none no_sign)

pub LineSays-some : (text : List ℕ) → (said : LineContent) × LineSays text said
LineSays-some text =
    let left = uncommented None text in
    let s = says_by (trimmed left) (header_or (trimmed left)) (cut_or (trimmed left)) in
    (s.0, record { left = left; uncommented = uncommented_is text; says = s.1 })

-- ---- logical lines

abbrev IsOpen : List ℕ → Type 0
IsOpen text = ((front : List ℕ) × EndsOpen text front) ⊎ ((front : List ℕ) → ¬ (EndsOpen text front))

open_by_end : (text : List ℕ) → EndsIn 92 (before_blanks text) → IsOpen text
open_by_end text (inl is) = inl (is.0, ends_open text is.0 is.1)
open_by_end text (inr none) = inr (λ front is. none front (before_open text front is))

open_or : (text : List ℕ) → IsOpen text
open_or text = open_by_end text (ends_in 92 (before_blanks text))

front_shorter : (text front : List ℕ) → EndsOpen text front → length front < length text
front_shorter text front is = omega (arith, ap (λ (t : List ℕ). length t) is.spelled, length-append front (92 ∷ is.blanks))

abbrev HasWhole : List ℕ → Type 0
HasWhole text = (whole : List ℕ) × IsWhole text [] whole []

last_by : (n : ℕ) (text : List ℕ) → length text < suc n → ((front : List ℕ) → length front < n → HasWhole front) → IsOpen text → HasWhole text
last_by n text few rest (inl is) =
    let shorter : length is.0 < n = omega (arith, front_shorter text is.0 is.1) in
    let more = rest is.0 shorter in
    (more.0, dropped is.0 is.1 more.1)
last_by n text few rest (inr none) = (text, ended none)

last_whole : (n : ℕ) (text : List ℕ) → length text < n → HasWhole text
last_whole zero text few = absurd (omega arith)
last_whole (suc n) text few = last_by n text few (λ front shorter. last_whole n front shorter) (open_or text)

-- a text with the lines that continue it
abbrev Joins : List ℕ → List Line → Type 0
Joins text lines = (whole : List ℕ) × (left : List Line) × IsWhole text lines whole left × (length left ≤ length lines)

joins_by : (text : List ℕ) (next : Line) (lines : List Line) → ((t : List ℕ) → Joins t lines) → IsOpen text → Joins text (next ∷ lines)
joins_by text next lines rest (inl is) =
    let more = rest (is.0 ++ 32 ∷ next.text) in
    let fewer : length more.1 ≤ length (next ∷ lines) = omega (arith, more.3) in
    (more.0, more.1, continued is.0 is.1 more.2, fewer)
joins_by text next lines rest (inr none) = (text, next ∷ lines, ended none, omega arith)

joins : (text : List ℕ) (lines : List Line) → Joins text lines
joins text [] =
    let last = last_whole (suc (length text)) text (omega arith) in
    (last.0, [], last.1, omega arith)
joins text (next ∷ lines) = joins_by text next lines (λ t. joins t lines) (open_or text)

abbrev HasLogical : List Line → Type 0
HasLogical lines = (logical : List Line) × AreLogical lines logical

logical_by : (n : ℕ) (first : Line) (lines : List Line) (test : Bool) → is_passed_in_model first.text ≡ test → length (first ∷ lines) < suc n → ((others : List Line) → length others < n → HasLogical others) → HasLogical (first ∷ lines)
logical_by n first lines true e few rest =
    let more = rest lines (omega arith) in
    (more.0, passed e more.1)
logical_by n first lines false e few rest =
    let whole = joins first.text lines in
    let fewer : length whole.1 < n = omega (arith, whole.3) in
    let more = rest whole.1 fewer in
    (line first.number whole.0 ∷ more.0, begun e whole.2 more.1)

logical_some : (n : ℕ) (lines : List Line) → length lines < n → HasLogical lines
logical_some zero lines few = absurd (omega arith)
logical_some (suc n) [] few = ([], no_line)
logical_some (suc n) (first ∷ lines) few = logical_by n first lines (is_passed_in_model first.text) refl few (λ others fewer. logical_some n others fewer)

all_say : (logical : List Line) → (statements : List Statement) × AllSay logical statements
all_say [] = ([], no_more)
all_say (first ∷ logical) =
    let said = LineSays-some first.text in
    let more = all_say logical in
    (statement first.number said.0 ∷ more.0, one_more said.1 more.1)

pub AreStatements-some : (lines : List Line) → (statements : List Statement) × AreStatements lines statements
AreStatements-some lines =
    let l = logical_some (suc (length lines)) lines (omega arith) in
    let s = all_say l.0 in
    (s.0, record { logical = l.0; lines_are = l.1; say = s.1 })
