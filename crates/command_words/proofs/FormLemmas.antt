-- The forms of a word: what `clap` and the definition of items say of each.
use Rattle.std.proofs.Common.{◌≡◌, ◌∙◌, ◌&&◌, ◌||◌, ◌==◌, ℕ, Bool, true, false, cond, not, List, [], ◌∷◌, take, drop, Some, None, refl, sym, ap, subst, arith, bytes_eq, codes, IsUtf8, ne_eqb, eqb-true}
use Rattle.std.proofs.lemmas.Bool.{eqb-false}
use Rattle.std.specs.Prelude.{option_and_then}
use Rattle.std.specs.List.{after_first, before_first, list_any}
use Rattle.clap.specs.Lexer.{long_of, long_of_rest, name_and_value, short_of, short_of_rest, strip_byte}
use Rattle.command_words.specs.Items.{operand, flag, option, stray, assigned, is_assignment, is_dashes, is_equals, is_json, is_name, is_operand, item_of}
use Rattle.command_words.proofs.TextLemmas.{and_false, before_none, behind_ascii, bytes_same, clash, or_true}

-- `-` alone, or a word that does not begin with it
pub record PlainWord (word : List ℕ) : Type 0 where
  pub dashes : is_dashes word ≡ false
  pub long : long_of word ≡ None
  pub short : short_of word ≡ None
  pub unnamed : is_name word ≡ false
  pub item : item_of word ≡ operand word
  pub plain : is_operand word ≡ true

-- `-` and characters, of which the first is not `-`
pub record ShortWord (word : List ℕ) : Type 0 where
  pub byte : ℕ
  pub bytes : List ℕ
  pub dashes : is_dashes word ≡ false
  pub long : long_of word ≡ None
  pub short : short_of word ≡ Some (byte ∷ bytes)
  pub unnamed : is_name word ≡ false
  pub item : item_of word ≡ stray
  pub none : is_operand word ≡ false
  pub utf8 : IsUtf8 (byte ∷ bytes)

-- one of these, or `--`, or `--` and a text
pub data Form (word : List ℕ) : Type 0 where
  plain_form : PlainWord word → Form word
  short_form : ShortWord word → Form word
  dashes_form : word ≡ 45 ∷ 45 ∷ [] → Form word
  long_form : (byte : ℕ) (bytes : List ℕ) → word ≡ 45 ∷ 45 ∷ byte ∷ bytes → Form word

flipped : (byte : ℕ) → (byte == 45) ≡ false → (45 == byte) ≡ false
flipped byte other = ne_eqb 45 byte (λ e. eqb-false byte 45 other (sym e))

not_dash : (byte : ℕ) (bytes : List ℕ) → (byte == 45) ≡ false → PlainWord (byte ∷ bytes)
not_dash byte bytes other =
    let word : List ℕ = byte ∷ bytes in
    let plain : is_operand (byte ∷ bytes) ≡ true = ap (λ (t : Bool). bytes_eq (byte ∷ bytes) (codes "-") || not t) other ∙ or_true (bytes_eq (byte ∷ bytes) (codes "-")) in
    record {
      dashes = ap (λ (t : Bool). t && bytes_eq bytes (45 ∷ [])) other;
      long = ap (λ (t : Bool). option_and_then long_of_rest (option_and_then (strip_byte 45) (cond t (Some bytes) None))) other;
      short = ap (λ (t : Bool). option_and_then short_of_rest (cond t (Some bytes) None)) other;
      unnamed = ap (λ (t : Bool). t && bytes_eq (45 ∷ []) (take 1 bytes) && not (is_json word) && not (list_any is_equals word)) (flipped byte other);
      item = ap (λ (t : Bool). cond t (operand word) (cond (is_json word) flag (cond (is_assignment word) (assigned (drop 2 word)) stray))) plain;
      plain = plain;
    }

dash_other : (byte : ℕ) (bytes : List ℕ) → (byte == 45) ≡ false → IsUtf8 (45 ∷ byte ∷ bytes) → ShortWord (45 ∷ byte ∷ bytes)
dash_other byte bytes other utf8 =
    let word : List ℕ = 45 ∷ byte ∷ bytes in
    record {
      byte = byte;
      bytes = bytes;
      dashes = ap (λ (t : Bool). t && bytes_eq bytes []) other;
      long = ap (λ (t : Bool). option_and_then long_of_rest (cond t (Some bytes) None)) other;
      short = ap (λ (t : Bool). cond t None (Some (byte ∷ bytes))) other;
      unnamed = ap (λ (t : Bool). t && true && not (is_json word) && not (list_any is_equals word)) (flipped byte other);
      item = ap (λ (t : Bool). cond (t && bytes_eq bytes (codes "json")) flag (cond (is_assignment word) (assigned (drop 2 word)) stray)) other
          ∙ ap (λ (t : Bool). cond (t && true && list_any is_equals word) (assigned (drop 2 word)) stray) (flipped byte other);
      none = refl;
      utf8 = behind_ascii 45 (byte ∷ bytes) (omega arith) utf8;
    }

two_dashes : (text : List ℕ) → Form (45 ∷ 45 ∷ text)
two_dashes [] = dashes_form refl
two_dashes (byte ∷ bytes) = long_form byte bytes refl

-- each word has one
pub form : (word : List ℕ) → IsUtf8 word → Form word
form [] utf8 = plain_form (record { dashes = refl; long = refl; short = refl; unnamed = refl; item = refl; plain = refl })
form (byte ∷ []) utf8 = go (byte == 45) refl
  where
    go : (test : Bool) → (byte == 45) ≡ test → Form (byte ∷ [])
    go false other = plain_form (not_dash byte [] other)
    go true same = subst (λ (x : ℕ). Form (x ∷ [])) (sym (eqb-true byte 45 same)) (plain_form (record { dashes = refl; long = refl; short = refl; unnamed = refl; item = refl; plain = refl }))
form (byte ∷ next ∷ text) utf8 = go (byte == 45) (next == 45) refl refl
  where
    go : (first second : Bool) → (byte == 45) ≡ first → (next == 45) ≡ second → Form (byte ∷ next ∷ text)
    go false second other e = plain_form (not_dash byte (next ∷ text) other)
    go true false same other = subst (λ (x : ℕ). Form (x ∷ next ∷ text)) (sym (eqb-true byte 45 same)) (short_form (dash_other next text other (subst (λ (x : ℕ). IsUtf8 (x ∷ next ∷ text)) (eqb-true byte 45 same) utf8)))
    go true true same again = subst (λ (x : ℕ). Form (x ∷ next ∷ text)) (sym (eqb-true byte 45 same)) (subst (λ (y : ℕ). Form (45 ∷ y ∷ text)) (sym (eqb-true next 45 again)) (two_dashes text))

-- ---- `--` and a text

-- `--name=VALUE`
pub record AssignedWord (text : List ℕ) : Type 0 where
  pub unnamed : is_name (45 ∷ 45 ∷ text) ≡ false
  pub item : item_of (45 ∷ 45 ∷ text) ≡ option (before_first is_equals text) (after_first is_equals text)
  pub parts : name_and_value text ≡ (before_first is_equals text, Some (after_first is_equals text))

json_unassigned : (text : List ℕ) → list_any is_equals text ≡ true → bytes_eq text (codes "json") ≡ false
json_unassigned text has = go (bytes_eq text (codes "json")) refl
  where
    go : (test : Bool) → bytes_eq text (codes "json") ≡ test → bytes_eq text (codes "json") ≡ false
    go false e = e
    go true e = clash (list_any is_equals text) has (ap (λ (t : List ℕ). list_any is_equals t) (bytes_same text (codes "json") e))

pub assigned_word : (text : List ℕ) → list_any is_equals text ≡ true → AssignedWord text
assigned_word text has =
    let other = json_unassigned text has in
    record {
      unnamed = ap (λ (t : Bool). not (bytes_eq text (codes "json")) && not t) has ∙ and_false (not (bytes_eq text (codes "json")));
      item = ap (λ (t : Bool). cond t flag (cond (list_any is_equals text) (assigned text) stray)) other ∙ ap (λ (t : Bool). cond t (assigned text) stray) has;
      parts = ap (λ (t : Bool). (before_first is_equals text, cond t (Some (after_first is_equals text)) None)) has;
    }

-- `--json`
pub record FlagWord (text : List ℕ) : Type 0 where
  pub unnamed : is_name (45 ∷ 45 ∷ text) ≡ false
  pub item : item_of (45 ∷ 45 ∷ text) ≡ flag
  pub parts : name_and_value text ≡ (codes "json", None)

pub flag_word : (text : List ℕ) → bytes_eq text (codes "json") ≡ true → FlagWord text
flag_word text is = record {
  unnamed = ap (λ (t : Bool). not t && not (list_any is_equals text)) is;
  item = ap (λ (t : Bool). cond t flag (cond (list_any is_equals text) (assigned text) stray)) is;
  parts = ap (λ (t : List ℕ). name_and_value t) (bytes_same text (codes "json") is);
}

-- `--name`
pub record NameWord (text : List ℕ) : Type 0 where
  pub named : is_name (45 ∷ 45 ∷ text) ≡ true
  pub parts : name_and_value text ≡ (text, None)

pub name_word : (text : List ℕ) → list_any is_equals text ≡ false → bytes_eq text (codes "json") ≡ false → NameWord text
name_word text none other = record {
  named = ap (λ (t : Bool). not t && not (list_any is_equals text)) other ∙ ap (λ (t : Bool). not t) none;
  parts = ap (λ (t : Bool). (before_first is_equals text, cond t (Some (after_first is_equals text)) None)) none ∙ ap (λ (name : List ℕ). (name, None)) (before_none is_equals text none);
}
