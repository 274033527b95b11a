-- The sections of bytes, line by line.
use Rattle.std.proofs.Common.{◌≡◌, ℕ, ◌+◌, ◌<◌, ◌||◌, Bool, true, false, List, [], ◌∷◌, ◌++◌, length, drop, get_or, eqb, eqb-true, Some, None, refl, sym, ap, subst, ◌∙◌, append_assoc, arith}
use Rattle.std.specs.Prelude.{IsUtf8, Option, is_some, if◌then◌else◌}
use Rattle.std.specs.List.{AllByRecursion}
use Rattle.std.specs.Option.{option_or}
use Rattle.std.proofs.Math.Seq.{drop-append_seam, get_or-append_seam, take-append_seam}
use Rattle.std.proofs.lemmas.List.{append-nil, drop-drop, length-append, length-take}
use Rattle.std.proofs.lemmas.List.Folds.{list_any-append}
use Rattle.std.proofs.lemmas.Str.{IsCharBoundary-after_ascii, IsCharBoundary-before_ascii, IsUtf8-drop, IsUtf8-take}
use Rattle.text_parts.proofs.CallerLemmas.{lines_of-cut, lines_of-last}
use Rattle.text_parts.specs.Lines.{has_byte, lines_of}
use Rattle.item_stream.proofs.CutLemmas.{at_end, by_first, by_byte}
use Rattle.item_stream.proofs.KeepLemmas.{kept_on, kept_short}
use Rattle.item_stream.specs.Lines.{kept, kind_of}
use Rattle.item_stream.specs.Sections.{Held, Section, ended_at, goes_on, listed, next_held, nothing, rest_left, rest_of, section_of, sections_by, sections_of, with_line}

-- the sections of lines, behind what is held, where the stream ends
abbrev pub sections_on : Held → List (List ℕ) → List Section
sections_on held [] = listed (section_of held) []
sections_on held (line ∷ lines) = listed (ended_at false held (kept line)) (sections_on (next_held false held (kept line)) lines)

-- ---- no LF

no_end-more : (front : List ℕ) (byte : ℕ) → has_byte 10 front ≡ false → eqb byte 10 ≡ false → has_byte 10 (front ++ byte ∷ []) ≡ false
no_end-more front byte none other = list_any-append (λ b. eqb b 10) front (byte ∷ []) ∙ ap (λ (t : Bool). t || (eqb byte 10 || false)) none ∙ ap (λ (t : Bool). t || false) other

pushed : (front : List ℕ) (byte : ℕ) (bytes : List ℕ) → (front ++ byte ∷ []) ++ bytes ≡ front ++ byte ∷ bytes
pushed front byte bytes = append_assoc front (byte ∷ []) bytes

-- ---- the end

-- a section that ends leaves nothing
two_by : (passed on : Bool) (held next : Held) (section : Option Section) →
    listed (option_or (if passed then None else if on then None else section) (section_of (if passed then held else if on then next else nothing))) []
    ≡ listed (if passed then None else if on then None else section) (listed (section_of (if passed then held else if on then next else nothing)) [])
two_by true on held next section = refl
two_by false true held next section = refl
two_by false false held next None = refl
two_by false false held next (Some section) = refl

rest_two : (held : Held) (line : List ℕ) → 0 < length line → listed (rest_of false held line) [] ≡ listed (ended_at false held line) (listed (section_of (next_held false held line)) [])
unfolding rest_of ended_at next_held
rest_two held [] long = absurd (omega (arith, long))
rest_two held (byte ∷ bytes) long = let kind = kind_of false (byte ∷ bytes) in two_by kind.passed (goes_on held kind) held (with_line held (byte ∷ bytes)) (section_of (with_line held (byte ∷ bytes)))

rest_none : (held : Held) → listed (rest_of false held []) [] ≡ listed (section_of held) []
unfolding rest_of
rest_none held = refl

lines_none : lines_of [] ≡ []
unfolding lines_of
lines_none = refl

kept_none : kept [] ≡ []
kept_none = kept_short [] (omega arith)

kept_long : (line : List ℕ) → 0 < length line → 0 < length (kept line)
unfolding kept
kept_long line long = omega (arith, long, length-take 65537 line)

end_on : (held : Held) (front : List ℕ) → has_byte 10 front ≡ false → rest_left false held (kept front) ≡ sections_on held (lines_of front)
end_on held [] none = ap (λ (l : List ℕ). listed (rest_of false held l) []) kept_none ∙ rest_none held ∙ ap (sections_on held) (sym lines_none)
end_on held (byte ∷ front) none =
    rest_two held (kept (byte ∷ front)) (kept_long (byte ∷ front) (omega arith)) ∙ ap (sections_on held) (sym (lines_of-last (byte ∷ front) (omega arith) none))

-- ---- byte by byte

abbrev LineByLine : Held → List ℕ → List ℕ → Type 0
LineByLine held front bytes = sections_by false (rest_left false) held (kept front) bytes ≡ sections_on held (lines_of (front ++ bytes))

line_by : (held : Held) (front : List ℕ) (byte : ℕ) (bytes : List ℕ) (test : Bool) → eqb byte 10 ≡ test → has_byte 10 front ≡ false → LineByLine (next_held false held (kept front)) [] bytes → (has_byte 10 (front ++ byte ∷ []) ≡ false → LineByLine held (front ++ byte ∷ []) bytes)
    → by_byte false test (rest_left false) held (kept front) byte bytes ≡ sections_on held (lines_of (front ++ byte ∷ bytes))
line_by held front byte bytes true is none ended on =
    ap (listed (ended_at false held (kept front))) (ap (λ (l : List ℕ). sections_by false (rest_left false) (next_held false held (kept front)) l bytes) (sym kept_none) ∙ ended)
    ∙ ap (sections_on held) (sym (lines_of-cut front bytes none)) ∙ ap (λ (b : ℕ). sections_on held (lines_of (front ++ b ∷ bytes))) (sym (eqb-true byte 10 is))
line_by held front byte bytes false is none ended on =
    ap (λ (l : List ℕ). sections_by false (rest_left false) held l bytes) (kept_on front (byte ∷ [])) ∙ on (no_end-more front byte none is) ∙ ap (λ (t : List ℕ). sections_on held (lines_of t)) (pushed front byte bytes)

line_by_line : (held : Held) (front bytes : List ℕ) → has_byte 10 front ≡ false → LineByLine held front bytes
line_by_line held front [] none = at_end false (rest_left false) held (kept front) ∙ end_on held front none ∙ ap (λ (t : List ℕ). sections_on held (lines_of t)) (sym (append-nil front))
line_by_line held front (byte ∷ bytes) none =
    by_first false (rest_left false) held (kept front) byte bytes ∙ line_by held front byte bytes (eqb byte 10) refl none (line_by_line (next_held false held (kept front)) [] bytes refl) (line_by_line held (front ++ byte ∷ []) bytes)

-- the sections of a stream are those of its lines
pub sections_are : (bytes : List ℕ) → sections_of false bytes ≡ sections_on nothing (lines_of bytes)
sections_are bytes = ap (λ (l : List ℕ). sections_by false (rest_left false) nothing l bytes) (sym kept_none) ∙ line_by_line nothing [] bytes refl

-- ---- what is too long stays so

abbrev pub AllShort : List Section → Type 0
AllShort sections = AllByRecursion (λ (section : Section). is_some section ≡ true) sections

long_by : (passed on : Bool) (lines : List (List ℕ)) → (AllShort (sections_on (Some None) lines) → ⊥)
    → AllShort (listed (if passed then None else if on then None else Some None) (sections_on (if passed then Some None else if on then Some None else nothing) lines)) → ⊥
long_by true on lines later all = later all
long_by false true lines later all = later all
long_by false false lines later all = let no : false ≡ true = all.0 in absurd cc

long_at : (front : List ℕ) (lines : List (List ℕ)) → (AllShort (sections_on (Some None) lines) → ⊥) → AllShort (listed (ended_at false (Some None) front) (sections_on (next_held false (Some None) front) lines)) → ⊥
unfolding ended_at next_held
long_at front lines later all = let kind = kind_of false front in long_by kind.passed (goes_on (Some None) kind) lines later all

pub long_is_told : (lines : List (List ℕ)) → AllShort (sections_on (Some None) lines) → ⊥
long_is_told [] all = let no : false ≡ true = all.0 in absurd cc
long_is_told (line ∷ lines) all = long_at (kept line) lines (long_is_told lines) all

-- ---- lines of a text

abbrev pub AreTextLines : List (List ℕ) → Type 0
AreTextLines lines = AllByRecursion (λ (line : List ℕ). IsUtf8 line × (has_byte 10 line ≡ false)) lines

-- a text that is cut at an LF
utf8_cut : (front rest : List ℕ) → IsUtf8 (front ++ 10 ∷ rest) → IsUtf8 front × IsUtf8 rest
utf8_cut front rest utf8 =
    let text = front ++ 10 ∷ rest in
    let at : drop (length front) text ≡ 10 ∷ rest = drop-append_seam front (10 ∷ rest) in
    let within : length front < length text = omega (arith, length-append front (10 ∷ rest)) in
    let here : get_or text (length front) 0 ≡ 10 = get_or-append_seam front 10 rest 0 in
    let ascii : get_or text (length front) 0 < 128 = omega (arith, here) in (
      subst IsUtf8 (take-append_seam front (10 ∷ rest)) (IsUtf8-take text (length front) utf8 (IsCharBoundary-before_ascii text (length front) within ascii)),
      subst IsUtf8 (sym (drop-drop 1 (length front) text) ∙ ap (drop 1) at) (IsUtf8-drop text (length front + 1) utf8 (IsCharBoundary-after_ascii text (length front) utf8 within ascii)),
    )

text_by : (front : List ℕ) (byte : ℕ) (bytes : List ℕ) (test : Bool) → eqb byte 10 ≡ test → has_byte 10 front ≡ false → IsUtf8 (front ++ byte ∷ bytes) → (IsUtf8 bytes → AreTextLines (lines_of bytes))
    → (has_byte 10 (front ++ byte ∷ []) ≡ false → IsUtf8 ((front ++ byte ∷ []) ++ bytes) → AreTextLines (lines_of ((front ++ byte ∷ []) ++ bytes))) → AreTextLines (lines_of (front ++ byte ∷ bytes))
text_by front byte bytes true is none utf8 ended on =
    let same = eqb-true byte 10 is in
    let cut = utf8_cut front bytes (subst (λ (b : ℕ). IsUtf8 (front ++ b ∷ bytes)) same utf8) in
    subst (λ (b : ℕ). AreTextLines (lines_of (front ++ b ∷ bytes))) (sym same) (subst AreTextLines (sym (lines_of-cut front bytes none)) ((cut.0, none), ended cut.1))
text_by front byte bytes false is none utf8 ended on =
    subst (λ (t : List ℕ). AreTextLines (lines_of t)) (pushed front byte bytes) (on (no_end-more front byte none is) (subst IsUtf8 (sym (pushed front byte bytes)) utf8))

text_from : (front bytes : List ℕ) → has_byte 10 front ≡ false → IsUtf8 (front ++ bytes) → AreTextLines (lines_of (front ++ bytes))
text_from [] [] none utf8 = subst AreTextLines (sym lines_none) tt
text_from (first ∷ front) [] none utf8 =
    let whole = append-nil (first ∷ front) in
    subst (λ (t : List ℕ). AreTextLines (lines_of t)) (sym whole) (subst AreTextLines (sym (lines_of-last (first ∷ front) (omega arith) none)) ((subst IsUtf8 whole utf8, none), tt))
text_from front (byte ∷ bytes) none utf8 = text_by front byte bytes (eqb byte 10) refl none utf8 (text_from [] bytes refl) (text_from (front ++ byte ∷ []) bytes)

pub lines_are_text : (bytes : List ℕ) → IsUtf8 bytes → AreTextLines (lines_of bytes)
lines_are_text bytes utf8 = text_from [] bytes refl utf8
