-- Every text is an edit's, or has a fault.
use Rattle.std.proofs.Common.{◌≡◌, ℕ, ◌⊎◌, inl, inr, Bool, true, false, List, [], ◌∷◌, ◌++◌, append_assoc, append-nil, length, eqb, Option, Some, None, IsUtf8, option_to_list, refl, sym, ap, subst, ◌∙◌, arith, true≢false}
use Rattle.std.specs.Prelude.{nat_lt}
use Rattle.std.specs.List.{list_any}
use Rattle.std.specs.Str.{bytes_eq, is_utf8}
use Rattle.std.proofs.lemmas.Bool.{eqb-true, ltb-false, ltb-true, lt-ltb, or_parts}
use Rattle.std.proofs.lemmas.Bool.Decides.{Decides-eqb}
use Rattle.std.proofs.lemmas.Slice.Eq.{bytes_eq-Decides}
use Rattle.std.proofs.lemmas.Str.{IsUtf8-from_is_utf8, is_utf8-from_IsUtf8}
use Rattle.perm_base.proofs.FieldLineLemmas.{AreFields-from_line, IsFields-no_fault, line_decides}
use Rattle.perm_base.specs.FieldFaults.{IsFault}
use Rattle.perm_base.specs.FieldLine as field
use Rattle.perm_base.specs.FieldLine.{IsFields}
use Rattle.perm_base.specs.LineEnds.{AreFields, has_line_end}
use Rattle.perm_base.specs.TableNames.{table_named}
use Rattle.perm_base.specs.declared.quoted.FieldFault.{FieldFault}
use Rattle.perm_base.specs.declared.shapes.TableId.{TableId}
use Rattle.policy_table.specs.Tables.{Fields}
use Rattle.policy_table.specs.declared.change.Change.{Change}
use Rattle.text_parts.specs.Lines.{lines_of, with_ends}
use Rattle.version_log.proofs.ItemLemmas.{says_whole, sign_at, sign_back}
use Rattle.version_log.proofs.ReadLemmas.{cut_text, edit_read, ended_place, ended_text, stray_at, stray_item, stray_line, taken_line}
use Rattle.version_log.proofs.SpellingLemmas.{last_says, named_spelled, printed_other, printed_read, signed_nothing, signed_says, spelled_named, spelled_prints, unsigned_nothing}
use Rattle.version_log.specs.EditText.{IsEditFault, IsEditText, IsMalformed, number_at, sign_byte}
use Rattle.version_log.specs.Helps.Items.{HasRead, IsNamed, IsPrinted, IsSpelled, Says, step}
use Rattle.version_log.specs.declared.edit_fault.EditFault.{EditFault}
use Rattle.version_log.specs.declared.edit_fault.EditFault.TheVariants.{Malformed}
use Rattle.version_log.specs.declared.edit_read.Place.{Place}
use Rattle.version_log.specs.declared.edit_read.Place.TheVariants.{Between, Half, Ended}
use Rattle.version_log.specs.declared.item.EditItem.{EditItem}
use Rattle.version_log.specs.declared.item.EditItem.TheVariants.{Signed, End}
use Rattle.version_log.specs.declared.item.Sign.{Sign}

-- ---- the rule of a line

record HasRule (P : TableId → Fields → Type 0) : Type 0 where
  table : TableId
  rule : Fields
  is : P table rule

abbrev NoRule : (TableId → Fields → Type 0) → Type 0
NoRule P = (table : TableId) (rule : Fields) → ¬ (P table rule)

sized : (name : List ℕ) (rule : Fields) (table : TableId) (some many : Bool) → table_named name ≡ Some table → nat_lt 0 (length rule) ≡ some → nat_lt 32 (length rule) ≡ many → HasRule (IsNamed (name ∷ rule)) ⊎ NoRule (IsNamed (name ∷ rule))
sized name rule table false many named e f = inr (λ there new is.
    let same : rule ≡ new = let p = is.parts in cc in
    true≢false (sym (lt-ltb 0 (length rule) (omega (arith, is.some, ap (λ (r : Fields). length r) same))) ∙ e))
sized name rule table true true named e f = inr (λ there new is.
    let same : rule ≡ new = let p = is.parts in cc in
    absurd (omega (arith, is.few, ap (λ (r : Fields). length r) same, ltb-true 32 (length rule) f)))
sized name rule table true false named e f =
    inl (record { table = table; rule = rule; is = record { name = name; parts = refl; named = named; some = ltb-true 0 (length rule) e; few = ltb-false 32 (length rule) f } })

named_decides : (fields : Fields) → HasRule (IsNamed fields) ⊎ NoRule (IsNamed fields)
named_decides [] = inr (λ table rule is. let p = is.parts in absurd cc)
named_decides (name ∷ rule) = by (table_named name) refl
  where
    by : (named : Option TableId) → table_named name ≡ named → HasRule (IsNamed (name ∷ rule)) ⊎ NoRule (IsNamed (name ∷ rule))
    by None e = inr (λ table new is.
        let same : name ≡ is.name = let p = is.parts in cc in
        let both : None ≡ Some table = sym e ∙ ap table_named same ∙ is.named in
        absurd cc)
    by (Some table) e = sized name rule table (nat_lt 0 (length rule)) (nat_lt 32 (length rule)) e refl refl

rest_fields : (name : List ℕ) (rule : Fields) → AreFields (name ∷ rule) → AreFields rule
rest_fields name rule fields = record { few = omega (arith, fields.few); whole_lines = (or_parts (has_line_end name) (list_any has_line_end rule) fields.whole_lines).1 }

printed_decides : (text : List ℕ) (fields : Fields) → IsPrinted text fields → HasRule (IsNamed fields) ⊎ NoRule (IsNamed fields) → HasRule (IsSpelled text) ⊎ NoRule (IsSpelled text)
printed_decides text fields printed (inr none) = inr (λ table rule is. none table rule (spelled_named text fields table rule printed is))
printed_decides text fields printed (inl has) =
    let whole : AreFields has.rule = rest_fields has.is.name has.rule (subst AreFields has.is.parts printed.whole) in
    inl (record { table = has.table; rule = has.rule; is = named_spelled text fields has.table has.rule printed has.is whole })

spelled_by : (text : List ℕ) (fields : Fields) → IsFields text fields → (same : Bool) → bytes_eq text (field.printed fields) ≡ same → HasRule (IsSpelled text) ⊎ NoRule (IsSpelled text)
spelled_by text fields read true e =
    printed_decides text fields (record { spelling = (bytes_eq-Decides text (field.printed fields)).0 e; some = read.some; few = read.few; whole = AreFields-from_line text fields read }) (named_decides fields)
spelled_by text fields read false e = inr (λ table rule is.
    let same : text ≡ field.printed fields = printed_other text fields (is.name ∷ rule) read (spelled_prints text table rule is) in
    true≢false (sym ((bytes_eq-Decides text (field.printed fields)).1 same) ∙ e))

rule_decides : (text : List ℕ) → HasRule (IsSpelled text) ⊎ NoRule (IsSpelled text)
rule_decides text = by (line_decides text)
  where
    by : (((fields : Fields) × IsFields text fields) ⊎ ((fault : FieldFault) × IsFault text fault)) → HasRule (IsSpelled text) ⊎ NoRule (IsSpelled text)
    by (inl read) = spelled_by text read.0 read.1 (bytes_eq text (field.printed read.0)) refl
    by (inr bad) = inr (λ table rule is. IsFields-no_fault text (is.name ∷ rule) bad.0 (printed_read text (is.name ∷ rule) (spelled_prints text table rule is)) bad.1)

-- ---- what a line says

-- it says something
record SaysItem (line : List ℕ) : Type 0 where
  item : EditItem
  says : Says line item

abbrev SaysNothing : List ℕ → Type 0
SaysNothing line = (item : EditItem) → ¬ (Says line item)

signed_by : (byte : ℕ) (text : List ℕ) (sign : Sign) → sign_byte sign ≡ byte → HasRule (IsSpelled text) ⊎ NoRule (IsSpelled text) → SaysItem (byte ∷ 32 ∷ text) ⊎ SaysNothing (byte ∷ 32 ∷ text)
signed_by byte text sign is (inl has) =
    inl (record { item = Signed sign has.table has.rule; says = signed_says (byte ∷ 32 ∷ text) text sign has.table has.rule (ap (λ (b : ℕ). b ∷ 32 ∷ text) (sym is)) has.is })
signed_by byte text sign is (inr none) = inr (signed_nothing (byte ∷ 32 ∷ text) text sign (ap (λ (b : ℕ). b ∷ 32 ∷ text) (sym is)) none)

two_bytes : (byte blank : ℕ) (text : List ℕ) (signed spaced : Bool) → eqb (sign_byte (sign_at byte)) byte ≡ signed → eqb blank 32 ≡ spaced → SaysItem (byte ∷ blank ∷ text) ⊎ SaysNothing (byte ∷ blank ∷ text)
two_bytes byte blank text true true e f =
    subst (λ (b : ℕ). SaysItem (byte ∷ b ∷ text) ⊎ SaysNothing (byte ∷ b ∷ text)) (sym (eqb-true blank 32 f)) (signed_by byte text (sign_at byte) (eqb-true (sign_byte (sign_at byte)) byte e) (rule_decides text))
two_bytes byte blank text true false e f = inr (unsigned_nothing (byte ∷ blank ∷ text) (λ g. absurd cc) (λ sign rest g.
    let same : blank ≡ 32 = cc in
    true≢false (sym ((Decides-eqb blank 32).1 same) ∙ f)))
two_bytes byte blank text false spaced e f = inr (unsigned_nothing (byte ∷ blank ∷ text) (λ g. absurd cc) (λ sign rest g.
    let same : byte ≡ sign_byte sign = cc in
    let back : sign_byte (sign_at byte) ≡ byte = ap (λ (b : ℕ). sign_byte (sign_at b)) same ∙ ap sign_byte (sign_back sign) ∙ sym same in
    true≢false (sym ((Decides-eqb (sign_byte (sign_at byte)) byte).1 back) ∙ e)))

one_byte : (byte : ℕ) (last : Bool) → eqb byte 46 ≡ last → SaysItem (byte ∷ []) ⊎ SaysNothing (byte ∷ [])
one_byte byte true e = inl (record { item = End; says = last_says (byte ∷ []) (ap (λ (b : ℕ). b ∷ []) (eqb-true byte 46 e)) })
one_byte byte false e = inr (unsigned_nothing (byte ∷ []) (λ g. let same : byte ≡ 46 = cc in true≢false (sym ((Decides-eqb byte 46).1 same) ∙ e)) (λ sign rest g. absurd cc))

says_decides : (line : List ℕ) → SaysItem line ⊎ SaysNothing line
says_decides [] = inr (unsigned_nothing [] (λ g. absurd cc) (λ sign rest g. absurd cc))
says_decides (byte ∷ []) = one_byte byte (eqb byte 46) refl
says_decides (byte ∷ blank ∷ text) = two_bytes byte blank text (eqb (sign_byte (sign_at byte)) byte) (eqb blank 32) refl refl

-- ---- what a text is

abbrev IsToldBy : List ℕ → Type 0
IsToldBy text = ((changes : List Change) × IsEditText text changes) ⊎ ((fault : EditFault) × IsEditFault text fault)

malformed : (text : List ℕ) (number : ℕ) → IsMalformed text number → IsToldBy text
malformed text number is = inr (Malformed number, is)

-- the lines behind those that were read
abbrev Goes : List ℕ → List (List ℕ) → Type 0
Goes text rest = (front : List (List ℕ)) (changes : List Change) (place : Place) → HasRead front changes place → lines_of text ≡ front ++ rest → IsToldBy text

stepped : (text line : List ℕ) (rest front : List (List ℕ)) (changes : List Change) (place : Place) (item : EditItem) → Goes text rest → HasRead front changes place → lines_of text ≡ front ++ line ∷ rest → Says line item → IsUtf8 line
    → (after : Option (Place × Option Change)) → step place item ≡ after → IsToldBy text
stepped text line rest front changes place item go read lines says utf8 None e =
    malformed text (number_at (length front)) (stray_at text front rest changes place line (number_at (length front)) read lines (stray_item front changes place line item read says e) refl)
stepped text line rest front changes place item go read lines says utf8 (Some s) e =
    go (front ++ line ∷ []) (changes ++ option_to_list s.1) s.0
    (taken_line front changes (changes ++ option_to_list s.1) place s.0 line item s.1 read (says, utf8) (says_whole line item says) e refl) (lines ∙ sym (append_assoc front (line ∷ []) rest))

next_line : (text line : List ℕ) (rest front : List (List ℕ)) (changes : List Change) (place : Place) → Goes text rest → HasRead front changes place → lines_of text ≡ front ++ line ∷ rest
    → (utf8 : Bool) → is_utf8 line ≡ utf8 → SaysItem line ⊎ SaysNothing line → IsToldBy text
next_line text line rest front changes place go read lines false e told =
    malformed text (number_at (length front)) (stray_at text front rest changes place line (number_at (length front)) read lines (stray_line front changes place line read (λ utf8. absurd (true≢false (sym (is_utf8-from_IsUtf8 line utf8) ∙ e)))) refl)
next_line text line rest front changes place go read lines true e (inr nothing) =
    malformed text (number_at (length front)) (stray_at text front rest changes place line (number_at (length front)) read lines (stray_line front changes place line read (λ utf8. nothing)) refl)
next_line text line rest front changes place go read lines true e (inl told) =
    stepped text line rest front changes place told.item go read lines told.says (IsUtf8-from_is_utf8 line e) (step place told.item) refl

at_end : (text : List ℕ) (front : List (List ℕ)) (changes : List Change) (place : Place) (same : Bool) → HasRead front changes place → lines_of text ≡ front → bytes_eq text (with_ends front) ≡ same → IsToldBy text
at_end text front changes Ended true read lines e =
    let is : text ≡ with_ends front = (bytes_eq-Decides text (with_ends front)).0 e in
    inl (changes, subst (λ (t : List ℕ). IsEditText t changes) (append-nil (with_ends front) ∙ sym is) (edit_read front changes [] read refl))
at_end text front changes Ended false read lines e =
    malformed text (number_at (length front)) (cut_text text front changes Ended read lines (λ more is. true≢false (sym ((bytes_eq-Decides text (with_ends front)).1 (ended_text text front more lines is)) ∙ e)))
at_end text front changes Between same read lines e =
    malformed text (number_at (length front)) (cut_text text front changes Between read lines (λ more is. let ended = ended_place text front changes more Between read lines is in absurd cc))
at_end text front changes (Half table old) same read lines e =
    malformed text (number_at (length front)) (cut_text text front changes (Half table old) read lines (λ more is. let ended = ended_place text front changes more (Half table old) read lines is in absurd cc))

goes : (text : List ℕ) (rest : List (List ℕ)) → Goes text rest
goes text [] front changes place read lines = at_end text front changes place (bytes_eq text (with_ends front)) read (lines ∙ append-nil front) refl
goes text (line ∷ rest) front changes place read lines = next_line text line rest front changes place (goes text rest) read lines (is_utf8 line) refl (says_decides line)

pub text_decides : (text : List ℕ) → IsToldBy text
text_decides text = goes text (lines_of text) [] [] Between (record { says = tt; utf8 = tt; whole = tt }) refl
