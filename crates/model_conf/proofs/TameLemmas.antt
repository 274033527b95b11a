-- Texts that end in neither `\` nor CR, and texts of bytes that mean nothing by themselves.
use Rattle.std.proofs.Common.{◌≡◌, ◌≢◌, ℕ, ◌&&◌, ◌||◌, inl, inr, Bool, true, false, not, cond, List, [], ◌∷◌, ◌++◌, eqb, refl, sym, ap, ◌∙◌, arith}
use Rattle.std.specs.List.{list_all}
use Rattle.std.proofs.lemmas.Bool.{false≢true, and_parts}
use Rattle.std.proofs.lemmas.Bool.Decides.{nat_tests}
use Rattle.std.proofs.lemmas.List.Folds.{list_all-append}
use Rattle.text_parts.specs.Names.{is_word}
use Rattle.text_parts.specs.Blanks.{is_blank, AreBlanks}
use Rattle.text_parts.specs.Lines.{has_byte, without_cr}
use Rattle.model_conf.specs.Comments.{IsQuote, IsUncommented, plain}
use Rattle.model_conf.specs.Logical.{EndsOpen}
use Rattle.model_conf.proofs.ColumnLemmas.{differs}
use Rattle.text_parts.proofs.CallerLemmas.{without_cr-other}

-- ---- the last byte

-- `\` or CR
abbrev pub is_loose : ℕ → Bool
is_loose byte = eqb byte 92 || eqb byte 13

-- the last byte that is no blank is loose; where there is none, as it was before
abbrev pub loose : Bool → List ℕ → Bool
loose so_far [] = so_far
loose so_far (byte ∷ bytes) = loose (cond (is_blank byte) so_far (is_loose byte)) bytes

pub loose-append : (so_far : Bool) (front back : List ℕ) → loose so_far (front ++ back) ≡ loose (loose so_far front) back
loose-append so_far [] back = refl
loose-append so_far (byte ∷ front) back = loose-append (cond (is_blank byte) so_far (is_loose byte)) front back

pub loose-blanks : (so_far : Bool) (blanks : List ℕ) → AreBlanks blanks → loose so_far blanks ≡ so_far
loose-blanks so_far [] blank = refl
loose-blanks so_far (byte ∷ blanks) blank =
    let parts = and_parts (is_blank byte) (list_all is_blank blanks) blank in
    ap (λ (b : Bool). loose (cond b so_far (is_loose byte)) blanks) parts.0 ∙ loose-blanks so_far blanks parts.1

pub not_open : (text : List ℕ) → loose false text ≡ false → (front : List ℕ) → ¬ (EndsOpen text front)
not_open text firm front open_ =
    false≢true (sym firm ∙ ap (loose false) open_.spelled ∙ loose-append false front (92 ∷ open_.blanks) ∙ loose-blanks true open_.blanks open_.blank)

pub no_cr : (text : List ℕ) → loose false text ≡ false → without_cr text ≡ text
no_cr text firm = without_cr-other text (λ front e. false≢true (sym firm ∙ ap (loose false) e ∙ loose-append false front (13 ∷ [])))

-- ---- bytes that mean nothing by themselves

-- no LF, CR, quote, `#` or `\`
abbrev pub is_tame : ℕ → Bool
is_tame byte = not (eqb byte 10) && (not (eqb byte 13) && (not (eqb byte 34) && (not (eqb byte 35) && (not (eqb byte 39) && not (eqb byte 92)))))

abbrev pub are_tame : List ℕ → Bool
are_tame text = list_all is_tame text

pub record IsTame (byte : ℕ) : Type 0 where
  pub line : eqb byte 10 ≡ false
  pub firm : is_loose byte ≡ false
  pub sharp : byte ≢ 35
  pub quote : ¬ (IsQuote byte)

no_quote : (byte : ℕ) → is_tame byte ≡ true → ¬ (IsQuote byte)
no_quote byte tame (inl is) = grind (arith, nat_tests)
no_quote byte tame (inr is) = grind (arith, nat_tests)

pub tame_byte : (byte : ℕ) → is_tame byte ≡ true → IsTame byte
tame_byte byte tame = record { line = grind (arith, nat_tests); firm = grind (arith, nat_tests); sharp = grind (arith, nat_tests); quote = no_quote byte tame }

pub tame-append : (front back : List ℕ) → are_tame front ≡ true → are_tame back ≡ true → are_tame (front ++ back) ≡ true
tame-append front back one two = rw (list_all-append is_tame front back, one, two) refl

pub tame_line : (text : List ℕ) → are_tame text ≡ true → has_byte 10 text ≡ false
tame_line [] all = refl
tame_line (byte ∷ text) all =
    let parts = and_parts (is_tame byte) (are_tame text) all in
    rw ((tame_byte byte parts.0).line, tame_line text parts.1) refl

pub tame_firm : (text : List ℕ) → are_tame text ≡ true → loose false text ≡ false
tame_firm [] all = refl
tame_firm (byte ∷ text) all =
    let parts = and_parts (is_tame byte) (are_tame text) all in
    ap (λ (b : Bool). loose (cond (is_blank byte) false b) text) (tame_byte byte parts.0).firm ∙ ap (λ (b : Bool). loose b text) (either (is_blank byte)) ∙ tame_firm text parts.1
  where
    either : (b : Bool) → cond b false false ≡ false
    either true = refl
    either false = refl

pub tame_uncommented : (front text left : List ℕ) → are_tame front ≡ true → IsUncommented text left → IsUncommented (front ++ text) (front ++ left)
tame_uncommented [] text left all rest = rest
tame_uncommented (byte ∷ front) text left all rest =
    let parts = and_parts (is_tame byte) (are_tame front) all in
    let t = tame_byte byte parts.0 in
    plain t.sharp t.quote (tame_uncommented front text left parts.1 rest)

pub word_tame : (byte : ℕ) → is_word byte ≡ true → is_tame byte ≡ true
word_tame byte word =
    rw (differs 10 byte refl word, differs 13 byte refl word, differs 34 byte refl word, differs 35 byte refl word, differs 39 byte refl word, differs 92 byte refl word) refl

pub words_tame : (name : List ℕ) → list_all is_word name ≡ true → are_tame name ≡ true
words_tame [] all = refl
words_tame (byte ∷ name) all =
    let parts = and_parts (is_word byte) (list_all is_word name) all in
    rw (word_tame byte parts.0, words_tame name parts.1) refl
