-- Bytes that the fields of a line do not hold, and so their spellings do not.
use Rattle.std.proofs.Common.{◌≡◌, ℕ, Bool, true, false, cond, List, [], ◌∷◌, ◌++◌, eqb, refl, ap, ◌∙◌}
use Rattle.std.specs.List.{AllZip, flat_map, join_by, list_all, list_any}
use Rattle.std.proofs.lemmas.Bool.{and_parts, or_parts}
use Rattle.std.proofs.lemmas.List.Folds.{list_any-append}
use Rattle.perm_base.specs.FieldLine.{IsFields, IsSpelled, IsWritten, doubled, is_quote}
use Rattle.perm_base.specs.FieldLine.IsWritten.{bare, quoted}
use Rattle.perm_base.specs.LineEnds.{has_line_end, is_line_end}
use Rattle.text_parts.specs.Blanks.{AreBlanks, is_blank}
use Rattle.text_parts.specs.Lines.{has_byte}
use Rattle.text_parts.proofs.CallerLemmas.{passing_is_other}

-- two texts that lack bytes, one behind the other
pub lacks_both : (test : ℕ → Bool) (front back : List ℕ) → list_any test front ≡ false → list_any test back ≡ false → list_any test (front ++ back) ≡ false
lacks_both test front back one other = list_any-append test front back ∙ rw (one, other) refl

-- bytes that are neither blanks nor quotes
module _ (test : ℕ → Bool) (no_blank : (byte : ℕ) → is_blank byte ≡ true → test byte ≡ false) (no_quote : test 34 ≡ false) where
  lacks_blanks : (blanks : List ℕ) → AreBlanks blanks → list_any test blanks ≡ false
  lacks_blanks [] all = refl
  lacks_blanks (byte ∷ blanks) all =
      let here = and_parts (is_blank byte) (list_all is_blank blanks) all in
      rw (no_blank byte here.0, lacks_blanks blanks here.1) refl

  lacks_doubled : (text : List ℕ) → list_any test text ≡ false → list_any test (doubled text) ≡ false
  unfolding doubled
  lacks_doubled [] none = refl
  lacks_doubled (byte ∷ text) none =
      let here = or_parts (test byte) (list_any test text) none in
      one (is_quote byte) here.0 (lacks_doubled text here.1)
    where
      one : (quote : Bool) → test byte ≡ false → list_any test (doubled text) ≡ false → list_any test (cond quote (34 ∷ 34 ∷ doubled text) (byte ∷ doubled text)) ≡ false
      one true here rest = rw (no_quote, rest) refl
      one false here rest = rw (here, rest) refl

  lacks_written : (text name : List ℕ) → IsWritten text name → list_any test name ≡ false → list_any test text ≡ false
  lacks_written text name (bare is e) none = ap (list_any test) e ∙ none
  lacks_written text name (quoted whole e) none =
      let close : list_any test (34 ∷ []) ≡ false = rw no_quote refl in
      let inside : list_any test (doubled name ++ 34 ∷ []) ≡ false = lacks_both test (doubled name) (34 ∷ []) (lacks_doubled name none) close in
      ap (list_any test) e ∙ rw (no_quote, inside) refl

  pub lacks_spelled : (spelling name : List ℕ) → IsSpelled spelling name → list_any test name ≡ false → list_any test spelling ≡ false
  lacks_spelled spelling name is none =
      ap (list_any test) is.parts
      ∙ lacks_both test (is.front ++ is.text) is.back (lacks_both test is.front is.text (lacks_blanks is.front is.blank_front) (lacks_written is.text name is.written none)) (lacks_blanks is.back is.blank_back)

-- a field without a comma
pub no_comma_spelled : (spelling name : List ℕ) → IsSpelled spelling name → has_byte 44 name ≡ false → has_byte 44 spelling ≡ false
no_comma_spelled spelling name is none = lacks_spelled (λ (byte : ℕ). eqb byte 44) (λ byte blank. passing_is_other is_blank byte 44 blank refl) refl spelling name is none

-- fields without line ends
no_blank : (byte : ℕ) → is_blank byte ≡ true → is_line_end byte ≡ false
no_blank byte blank = rw (passing_is_other is_blank byte 13 blank refl, passing_is_other is_blank byte 10 blank refl) refl

further_whole : (spellings fields : List (List ℕ)) → AllZip IsSpelled spellings fields → list_any has_line_end fields ≡ false → has_line_end (flat_map (λ (spelling : List ℕ). (44 ∷ []) ++ spelling) spellings) ≡ false
further_whole [] fields all none = refl
further_whole (spelling ∷ spellings) [] all none = absurd all
further_whole (spelling ∷ spellings) (field ∷ fields) all none =
    let here = or_parts (has_line_end field) (list_any has_line_end fields) none in
    lacks_both is_line_end ((44 ∷ []) ++ spelling) (flat_map (λ (spelling : List ℕ). (44 ∷ []) ++ spelling) spellings) (lacks_spelled is_line_end no_blank refl spelling field all.0 here.0) (further_whole spellings fields all.1 here.1)

-- so a line of such fields holds none
pub whole_line : (line : List ℕ) (fields : List (List ℕ)) → IsFields line fields → list_any has_line_end fields ≡ false → has_line_end line ≡ false
whole_line line fields is none = ap has_line_end is.parts ∙ by is.spellings fields is.spelled none
  where
    by : (spellings fields : List (List ℕ)) → AllZip IsSpelled spellings fields → list_any has_line_end fields ≡ false → has_line_end (join_by (λ (spelling : List ℕ). spelling) (44 ∷ []) spellings) ≡ false
    by [] fields all none = refl
    by (spelling ∷ spellings) [] all none = absurd all
    by (spelling ∷ spellings) (field ∷ fields) all none =
        let here = or_parts (has_line_end field) (list_any has_line_end fields) none in
        lacks_both is_line_end spelling (flat_map (λ (s : List ℕ). (44 ∷ []) ++ s) spellings) (lacks_spelled is_line_end no_blank refl spelling field all.0 here.0) (further_whole spellings fields all.1 here.1)
