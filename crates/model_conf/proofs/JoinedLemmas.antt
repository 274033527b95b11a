-- Names, joined by a comma and a blank, are the columns of the joined text.
use Rattle.std.proofs.Common.{◌≡◌, ℕ, ◌<◌, ◌&&◌, Bool, true, false, cond, List, [], ◌∷◌, ◌++◌, length, refl, sym, ap, ◌∙◌, subst, arith}
use Rattle.std.specs.Prelude.{IsTrue}
use Rattle.std.specs.List.{list_all, flat_map, AllByRecursion}
use Rattle.std.proofs.lemmas.List.{append_assoc, append-nil}
use Rattle.std.proofs.lemmas.List.Folds.{list_all-append}
use Rattle.text_parts.specs.Names.{is_identifier, is_word}
use Rattle.text_parts.specs.Blanks.{is_blank, before_blanks, behind_blanks, trimmed}
use Rattle.perm_base.specs.Fields.{joined}
use Rattle.model_conf.specs.Columns.{columns_in}
use Rattle.text_parts.proofs.BlankLemmas.{behind_blanks-other}
use Rattle.std.proofs.lemmas.Bool.{and_parts}
use Rattle.model_conf.proofs.ColumnLemmas.{columns_in-cut, columns_in-last, differs, has_byte-identifier}
use Rattle.text_parts.proofs.CallerLemmas.{words_of}
use Rattle.model_conf.proofs.TameLemmas.{are_tame, tame-append, words_tame}

-- ---- texts that do not end in a blank

pub record IsFull (text : List ℕ) : Type 0 where
  pub some : list_all is_blank text ≡ false
  pub last : before_blanks text ≡ text

none_blank : (front back : List ℕ) → list_all is_blank back ≡ false → list_all is_blank (front ++ back) ≡ false
none_blank front back some = list_all-append is_blank front back ∙ ap (λ (b : Bool). list_all is_blank front && b) some ∙ either (list_all is_blank front)
  where
    either : (b : Bool) → (b && false) ≡ false
    either true = refl
    either false = refl

pub before_blanks-onto : (front back : List ℕ) → list_all is_blank back ≡ false → before_blanks (front ++ back) ≡ front ++ before_blanks back
before_blanks-onto [] back some = refl
before_blanks-onto (byte ∷ front) back some =
    ap (λ (b : Bool). cond b [] (byte ∷ before_blanks (front ++ back))) (none_blank (byte ∷ front) back some) ∙ ap (λ (t : List ℕ). byte ∷ t) (before_blanks-onto front back some)

pub full-onto : (front back : List ℕ) → IsFull back → IsFull (front ++ back)
full-onto front back is = record { some = none_blank front back is.some; last = before_blanks-onto front back is.some ∙ ap (λ (t : List ℕ). front ++ t) is.last }

-- ---- a name

no_blank : (byte : ℕ) → is_word byte ≡ true → is_blank byte ≡ false
no_blank byte word = rw (differs 32 byte refl word, differs 9 byte refl word) refl

pub words_last : (name : List ℕ) → list_all is_word name ≡ true → before_blanks name ≡ name
words_last [] all = refl
words_last (byte ∷ name) all =
    let parts = and_parts (is_word byte) (list_all is_word name) all in
    ap (λ (b : Bool). cond (b && list_all is_blank name) [] (byte ∷ before_blanks name)) (no_blank byte parts.0) ∙ ap (λ (t : List ℕ). byte ∷ t) (words_last name parts.1)

pub words_first : (name rest : List ℕ) → IsTrue (is_identifier name) → behind_blanks (name ++ rest) ≡ name ++ rest
words_first [] rest is = absurd cc
words_first (byte ∷ name) rest is = behind_blanks-other byte (name ++ rest) (no_blank byte (and_parts (is_word byte) (list_all is_word name) (words_of (byte ∷ name) is)).0)

pub name_full : (name : List ℕ) → IsTrue (is_identifier name) → IsFull name
name_full [] is = absurd cc
name_full (byte ∷ name) is = record {
  some = ap (λ (b : Bool). b && list_all is_blank name) (no_blank byte (and_parts (is_word byte) (list_all is_word name) (words_of (byte ∷ name) is)).0);
  last = words_last (byte ∷ name) (words_of (byte ∷ name) is);
}

name_trimmed : (name : List ℕ) → IsTrue (is_identifier name) → trimmed name ≡ name
name_trimmed name is =
    ap before_blanks (ap behind_blanks (sym (append-nil name)) ∙ words_first name [] is ∙ append-nil name) ∙ words_last name (words_of name is)

-- ---- names joined

abbrev tail : List (List ℕ) → List ℕ
tail names = flat_map (λ (name : List ℕ). (44 ∷ 32 ∷ []) ++ name) names

abbrev AreNamesToo : List (List ℕ) → Type 0
AreNamesToo names = AllByRecursion (λ (name : List ℕ). IsTrue (is_identifier name)) names

-- names behind a name, and behind a blank and a name
more_columns : (name : List ℕ) (names : List (List ℕ)) → IsTrue (is_identifier name) → AreNamesToo names → columns_in (32 ∷ (name ++ tail names)) ≡ name ∷ names
more_columns name [] is all =
    ap columns_in (ap (λ (t : List ℕ). 32 ∷ t) (append-nil name)) ∙ columns_in-last (32 ∷ name) (has_byte-identifier 44 name refl is) ∙ ap (λ (t : List ℕ). t ∷ []) (name_trimmed name is)
more_columns name (next ∷ names) is all =
    columns_in-cut (32 ∷ name) (32 ∷ (next ++ tail names)) (has_byte-identifier 44 name refl is) ∙ ap (λ (t : List ℕ). t ∷ columns_in (32 ∷ (next ++ tail names))) (name_trimmed name is)
    ∙ ap (λ (l : List (List ℕ)). name ∷ l) (more_columns next names all.0 all.1)

pub columns_in-joined : (names : List (List ℕ)) → 0 < length names → AreNamesToo names → columns_in (joined names) ≡ names
columns_in-joined [] some all = absurd (omega arith)
columns_in-joined (name ∷ []) some all =
    ap columns_in (append-nil name) ∙ columns_in-last name (has_byte-identifier 44 name refl all.0) ∙ ap (λ (t : List ℕ). t ∷ []) (name_trimmed name all.0)
columns_in-joined (name ∷ next ∷ names) some all =
    columns_in-cut name (32 ∷ (next ++ tail names)) (has_byte-identifier 44 name refl all.0) ∙ ap (λ (t : List ℕ). t ∷ columns_in (32 ∷ (next ++ tail names))) (name_trimmed name all.0)
    ∙ ap (λ (l : List (List ℕ)). name ∷ l) (more_columns next names all.1.0 all.1.1)

tail_full : (front : List ℕ) (names : List (List ℕ)) → IsFull front → AreNamesToo names → IsFull (front ++ tail names)
tail_full front [] is all = subst IsFull (sym (append-nil front)) is
tail_full front (name ∷ names) is all =
    let more = tail_full (front ++ (44 ∷ 32 ∷ name)) names (full-onto front (44 ∷ 32 ∷ name) (full-onto (44 ∷ 32 ∷ []) name (name_full name all.0))) all.1 in
    subst IsFull (append_assoc front (44 ∷ 32 ∷ name) (tail names)) more

pub joined_trimmed : (names : List (List ℕ)) → 0 < length names → AreNamesToo names → trimmed (joined names) ≡ joined names
joined_trimmed [] some all = absurd (omega arith)
joined_trimmed (name ∷ names) some all = ap before_blanks (words_first name (tail names) all.0) ∙ (tail_full name names (name_full name all.0) all.1).last

tail_tame : (names : List (List ℕ)) → AreNamesToo names → are_tame (tail names) ≡ true
tail_tame [] all = refl
tail_tame (name ∷ names) all = tame-append (44 ∷ 32 ∷ name) (tail names) (words_tame name (words_of name all.0)) (tail_tame names all.1)

pub joined_tame : (names : List (List ℕ)) → AreNamesToo names → are_tame (joined names) ≡ true
joined_tame [] all = refl
joined_tame (name ∷ names) all = tame-append name (tail names) (words_tame name (words_of name all.0)) (tail_tame names all.1)
