-- A matcher's text has no comment, and ends in neither `\` nor CR.
use Rattle.std.proofs.Common.{◌≡◌, ℕ, ◌<◌, ◌&&◌, inl, inr, Bool, true, false, not, List, [], ◌∷◌, ◌++◌, length, codes, eqb, Option, None, refl, sym, ap, ◌∙◌, subst, arith}
use Rattle.std.specs.Prelude.{IsTrue}
use Rattle.std.specs.Char.{is_ascii_digit}
use Rattle.std.specs.List.{list_all, join_with_byte, AllByRecursion}
use Rattle.std.proofs.lemmas.Bool.{false≢true, eqb-true, and_parts}
use Rattle.std.proofs.lemmas.List.{append_assoc, append-nil}
use Rattle.std.proofs.lemmas.List.Elements.{recursion_from_All}
use Rattle.std.proofs.lemmas.List.Folds.{list_all-append}
use Rattle.matcher_read.specs.Matcher.{IsMatcher, is_closed}
use Rattle.text_parts.specs.Names.{is_identifier, is_word}
use Rattle.matcher_read.specs.Tokens.{Token, Placed, IsCut, ended, strayed, one_token, IsQuote, IsSpelling, as_name, as_number, as_text, as_unclosed, as_operator, as_exclamation, as_opening, as_closing, as_comma, sign}
use Rattle.matcher_read.specs.declared.tree.Operator.{Operator}
use Rattle.matcher_read.specs.declared.tree.Operator.TheVariants as op
use Rattle.text_parts.specs.Blanks.{is_blank, AreBlanks}
use Rattle.text_parts.specs.Lines.{has_byte}
use Rattle.model_conf.specs.Comments.{IsUncommented, ended as no_bytes, quoted}
use Rattle.text_parts.proofs.CallerLemmas.{words_of}
use Rattle.model_conf.proofs.TameLemmas.{are_tame, is_tame, loose, loose-append, loose-blanks, tame_byte, tame_uncommented}

-- ---- a token

-- behind it nothing is open: neither a quoted text nor a line
record IsSteady (spelling : List ℕ) : Type 0 where
  uncommented : (text left : List ℕ) → IsUncommented text left → IsUncommented (spelling ++ text) (spelling ++ left)
  firm : (so_far : Bool) → loose so_far spelling ≡ false

abbrev is_solid : ℕ → Bool
is_solid byte = is_tame byte && not (is_blank byte)

-- at least one byte, each tame and no blank
abbrev is_solid_text : List ℕ → Bool
is_solid_text [] = false
is_solid_text (byte ∷ bytes) = list_all is_solid (byte ∷ bytes)

solid_tame : (text : List ℕ) → list_all is_solid text ≡ true → are_tame text ≡ true
solid_tame [] all = refl
solid_tame (byte ∷ text) all =
    let parts = and_parts (is_solid byte) (list_all is_solid text) all in
    rw ((and_parts (is_tame byte) (not (is_blank byte)) parts.0).0, solid_tame text parts.1) refl

no_blank : (b : Bool) → not b ≡ true → b ≡ false
no_blank true e = absurd cc
no_blank false e = refl

solid_byte : (byte : ℕ) (so_far : Bool) (bytes : List ℕ) → is_solid byte ≡ true → loose so_far (byte ∷ bytes) ≡ loose false bytes
solid_byte byte so_far bytes solid =
    let parts = and_parts (is_tame byte) (not (is_blank byte)) solid in
    rw (no_blank (is_blank byte) parts.1, (tame_byte byte parts.0).firm) refl

solid_firm : (text : List ℕ) → list_all is_solid text ≡ true → loose false text ≡ false
solid_firm [] all = refl
solid_firm (byte ∷ text) all =
    let parts = and_parts (is_solid byte) (list_all is_solid text) all in
    solid_byte byte false text parts.0 ∙ solid_firm text parts.1

solid_steady : (text : List ℕ) → is_solid_text text ≡ true → IsSteady text
solid_steady [] all = absurd cc
solid_steady (byte ∷ text) all =
    let parts = and_parts (is_solid byte) (list_all is_solid text) all in
    record {
      uncommented = λ more left is. tame_uncommented (byte ∷ text) more left (solid_tame (byte ∷ text) all) is;
      firm = λ so_far. solid_byte byte so_far text parts.0 ∙ solid_firm text parts.1;
    }

-- ---- names and numbers

differs_by : (p : ℕ → Bool) (byte other : ℕ) → p byte ≡ false → p other ≡ true → eqb other byte ≡ false
differs_by p byte other lacks holds = by_test (eqb other byte) refl
  where
    by_test : (test : Bool) → eqb other byte ≡ test → test ≡ false
    by_test true e = absurd (false≢true (sym lacks ∙ ap p (sym (eqb-true other byte e)) ∙ holds))
    by_test false e = refl

-- a test that holds for solid bytes alone
solid_by : (p : ℕ → Bool) → p 10 ≡ false → p 13 ≡ false → p 34 ≡ false → p 35 ≡ false → p 39 ≡ false → p 92 ≡ false → p 32 ≡ false → p 9 ≡ false → (byte : ℕ) → p byte ≡ true → is_solid byte ≡ true
solid_by p a b c d e f g h byte holds =
    rw (differs_by p 10 byte a holds, differs_by p 13 byte b holds, differs_by p 34 byte c holds, differs_by p 35 byte d holds, differs_by p 39 byte e holds, differs_by p 92 byte f holds, differs_by p 32 byte g holds, differs_by p 9 byte h holds) refl

all_solid : (p : ℕ → Bool) → ((byte : ℕ) → p byte ≡ true → is_solid byte ≡ true) → (text : List ℕ) → list_all p text ≡ true → list_all is_solid text ≡ true
all_solid p each [] all = refl
all_solid p each (byte ∷ text) all =
    let parts = and_parts (p byte) (list_all p text) all in
    rw (each byte parts.0, all_solid p each text parts.1) refl

solid_text : (text : List ℕ) → 0 < length text → list_all is_solid text ≡ true → is_solid_text text ≡ true
solid_text [] some all = absurd (omega arith)
solid_text (byte ∷ text) some all = all

name_solid : (name : List ℕ) → IsTrue (is_identifier name) → list_all is_solid name ≡ true
name_solid name is = all_solid is_word (solid_by is_word refl refl refl refl refl refl refl refl) name (words_of name is)

names_solid : (parts : List (List ℕ)) → AllByRecursion (λ (part : List ℕ). IsTrue (is_identifier part)) parts → list_all is_solid (join_with_byte 46 parts) ≡ true
names_solid [] all = refl
names_solid (part ∷ []) all = name_solid part all.0
names_solid (part ∷ next ∷ parts) all = list_all-append is_solid part (46 ∷ join_with_byte 46 (next ∷ parts)) ∙ rw (name_solid part all.0, names_solid (next ∷ parts) all.1) refl

names_solid_text : (parts : List (List ℕ)) → 0 < length parts → AllByRecursion (λ (part : List ℕ). IsTrue (is_identifier part)) parts → is_solid_text (join_with_byte 46 parts) ≡ true
names_solid_text [] some all = absurd (omega arith)
names_solid_text ([] ∷ parts) some all = absurd cc
names_solid_text ((byte ∷ part) ∷ []) some all = names_solid ((byte ∷ part) ∷ []) all
names_solid_text ((byte ∷ part) ∷ next ∷ parts) some all = names_solid ((byte ∷ part) ∷ next ∷ parts) all

-- ---- quoted texts and signs

quote_firm : (quote : ℕ) (so_far : Bool) → IsQuote quote → loose so_far (quote ∷ []) ≡ false
quote_firm quote so_far (inl e) = ap (λ (b : ℕ). loose so_far (b ∷ [])) e
quote_firm quote so_far (inr e) = ap (λ (b : ℕ). loose so_far (b ∷ [])) e

text_steady : (quote : ℕ) (bytes : List ℕ) → IsQuote quote → has_byte quote bytes ≡ false → IsSteady (quote ∷ bytes ++ quote ∷ [])
text_steady quote bytes is none = record {
  uncommented = λ text left rest. quoted bytes text left is none rest (append_assoc bytes (quote ∷ []) text) (append_assoc bytes (quote ∷ []) left);
  firm = λ so_far. loose-append so_far (quote ∷ bytes) (quote ∷ []) ∙ quote_firm quote (loose so_far (quote ∷ bytes)) is;
}

sign_steady : (o : Operator) → IsSteady (sign o)
sign_steady op.Or = solid_steady (codes "||") refl
sign_steady op.And = solid_steady (codes "&&") refl
sign_steady op.Equal = solid_steady (codes "==") refl
sign_steady op.NotEqual = solid_steady (codes "!=") refl
sign_steady op.Less = solid_steady (codes "<") refl
sign_steady op.AtMost = solid_steady (codes "<=") refl
sign_steady op.Greater = solid_steady (codes ">") refl
sign_steady op.AtLeast = solid_steady (codes ">=") refl
sign_steady op.Plus = solid_steady (codes "+") refl
sign_steady op.Minus = solid_steady (codes "-") refl
sign_steady op.Times = solid_steady (codes "*") refl
sign_steady op.Over = solid_steady (codes "/") refl
sign_steady op.Remainder = solid_steady (codes "%") refl

token_steady : {token : Token} {spelling : List ℕ} → IsSpelling token spelling → is_closed token ≡ true → IsSteady spelling
token_steady (as_name {parts = parts} some all) closed = solid_steady (join_with_byte 46 parts) (names_solid_text parts some (recursion_from_All _ _ all))
token_steady (as_number {digits = digits} some all) closed =
    solid_steady digits (solid_text digits some (all_solid is_ascii_digit (solid_by is_ascii_digit refl refl refl refl refl refl refl refl) digits all))
token_steady (as_text {quote = quote} {bytes = bytes} is none) closed = text_steady quote bytes is none
token_steady (as_unclosed is none) closed = absurd cc
token_steady (as_operator {o = o}) closed = sign_steady o
token_steady as_exclamation closed = solid_steady (codes "!") refl
token_steady as_opening closed = solid_steady (codes "(") refl
token_steady as_closing closed = solid_steady (codes ")") refl
token_steady as_comma closed = solid_steady (codes ",") refl

-- ---- a whole text

-- it has no comment, and is not left open
pub record IsBare (text : List ℕ) : Type 0 where
  pub uncommented : IsUncommented text text
  pub firm : loose false text ≡ false

blanks_tame : (blanks : List ℕ) → AreBlanks blanks → are_tame blanks ≡ true
blanks_tame [] blank = refl
blanks_tame (byte ∷ blanks) blank =
    let parts = and_parts (is_blank byte) (list_all is_blank blanks) blank in
    rw (blank_tame byte parts.0, blanks_tame blanks parts.1) refl
  where
    blank_tame : (byte : ℕ) → is_blank byte ≡ true → is_tame byte ≡ true
    blank_tame byte blank =
        rw (differs_by is_blank 10 byte refl blank, differs_by is_blank 13 byte refl blank, differs_by is_blank 34 byte refl blank, differs_by is_blank 35 byte refl blank, differs_by is_blank 39 byte refl blank, differs_by is_blank 92 byte refl blank) refl

blanks_bare : (blanks : List ℕ) → AreBlanks blanks → IsBare blanks
blanks_bare blanks blank = record {
  uncommented = subst (λ (t : List ℕ). IsUncommented t t) (append-nil blanks) (tame_uncommented blanks [] [] (blanks_tame blanks blank) no_bytes);
  firm = loose-blanks false blanks blank;
}

one_more : (blanks spelling behind text : List ℕ) → AreBlanks blanks → IsSteady spelling → IsBare behind → text ≡ blanks ++ (spelling ++ behind) → IsBare text
one_more blanks spelling behind text blank steady rest e = record {
  uncommented = subst (λ (t : List ℕ). IsUncommented t t) (sym e) (tame_uncommented blanks (spelling ++ behind) (spelling ++ behind) (blanks_tame blanks blank) (steady.uncommented behind behind rest.uncommented));
  firm =
      ap (loose false) e ∙ loose-append false blanks (spelling ++ behind) ∙ loose-append (loose false blanks) spelling behind
      ∙ ap (λ (b : Bool). loose b behind) (steady.firm (loose false blanks)) ∙ rest.firm;
}

cut_bare : {place : ℕ} {text : List ℕ} {tokens : List Placed} {stray : Option ℕ} → IsCut place text tokens stray → stray ≡ None → list_all (λ (t : Placed). is_closed t.token) tokens ≡ true → IsBare text
cut_bare (ended {blanks = blanks} blank) none closed = blanks_bare blanks blank
cut_bare (strayed blanks bytes blank begins e) none closed = absurd cc
cut_bare (one_token blanks spelling behind {text = text} {token = token} {tokens = tokens} blank longest rest e) none closed =
    let parts = and_parts (is_closed token) (list_all (λ (t : Placed). is_closed t.token) tokens) closed in
    one_more blanks spelling behind text blank (token_steady longest.spelled parts.0) (cut_bare rest none parts.1) e

pub matcher_bare : (text : List ℕ) (e : _) → IsMatcher text e → IsBare text
matcher_bare text e is = cut_bare is.cut refl is.closed
