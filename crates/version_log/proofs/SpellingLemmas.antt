-- How the line of a rule is spelled, and how it is read.
use Rattle.std.proofs.Common.{◌≡◌, ◌≢◌, ℕ, ◌+◌, false, List, [], ◌∷◌, ◌++◌, codes, length, drop, remove, Bor, IfNone, IfSome, Option, Some, None, is_some, MatchOption, sym, ap, subst, ◌∙◌, arith}
use Rattle.std.specs.List.{list_any}
use Rattle.std.specs.Str.{IsCharBoundary}
use Rattle.std.proofs.lemmas.Bool.{or_parts}
use Rattle.perm_base.proofs.FieldLineLemmas.{IsFields-once}
use Rattle.perm_base.proofs.PrintLemmas.{printed_is}
use Rattle.perm_base.proofs.TableLemmas.{name_from_named, named_from_name}
use Rattle.perm_base.specs.FieldLine as field
use Rattle.perm_base.specs.FieldLine.{IsFields}
use Rattle.perm_base.specs.LineEnds.{AreFields, has_line_end}
use Rattle.perm_base.specs.declared.shapes.TableId.{TableId}
use Rattle.policy_table.specs.Tables.{Fields}
use Rattle.version_log.proofs.ItemLemmas.{line_is, named_fields, says_line}
use Rattle.version_log.specs.EditText.{sign_byte}
use Rattle.version_log.specs.Helps.Items.{IsNamed, IsPrinted, IsSpelled, Says}
use Rattle.version_log.specs.declared.item.EditItem.{EditItem}
use Rattle.version_log.specs.declared.item.EditItem.TheVariants.{Signed, End}
use Rattle.version_log.specs.declared.item.Sign.{Sign}

pub rest_whole : (fields rest : Fields) → rest ≡ remove fields 0 → list_any has_line_end fields ≡ false → list_any has_line_end rest ≡ false
rest_whole [] rest e none = ap (list_any has_line_end) e
rest_whole (first ∷ fields) rest e none = ap (list_any has_line_end) e ∙ (or_parts (has_line_end first) (list_any has_line_end fields) none).1

pub printed_read : (text : List ℕ) (fields : Fields) → IsPrinted text fields → IsFields text fields
printed_read text fields is = subst (λ (t : List ℕ). IsFields t fields) (sym is.spelling) (printed_is fields is.whole is.some is.few)

-- a text prints no fields but those that it is read as
pub printed_other : (text : List ℕ) (found fields : Fields) → IsFields text found → IsPrinted text fields → text ≡ field.printed found
printed_other text found fields read is = is.spelling ∙ ap field.printed (IsFields-once text fields found (printed_read text fields is) read)

pub spelled_prints : (text : List ℕ) (table : TableId) (rule : Fields) (is : IsSpelled text table rule) → IsPrinted text (is.name ∷ rule)
spelled_prints text table rule is = record { spelling = is.spelling; some = omega arith; few = omega (arith, is.few); whole = named_fields table is.name rule is.named is.few is.fields }

pub spelled_named : (text : List ℕ) (fields : Fields) (table : TableId) (rule : Fields) → IsPrinted text fields → IsSpelled text table rule → IsNamed fields table rule
spelled_named text fields table rule printed is = record {
  name = is.name;
  parts = IsFields-once text fields (is.name ∷ rule) (printed_read text fields printed) (printed_read text (is.name ∷ rule) (spelled_prints text table rule is));
  named = named_from_name table is.name is.named;
  some = is.some;
  few = is.few;
}

pub none_spelled : (text : List ℕ) (fields : Fields) (result : Option (TableId × Fields)) → IsPrinted text fields → IfNone result ((table : TableId) (rule : Fields) → ¬ (IsNamed fields table rule)) → IfNone result ((table : TableId) (rule : Fields) → ¬ (IsSpelled text table rule))
none_spelled text fields None printed none = λ table rule is. none table rule (spelled_named text fields table rule printed is)
none_spelled text fields (Some said) printed none = tt

pub named_spelled : (text : List ℕ) (fields : Fields) (table : TableId) (rule : Fields) → IsPrinted text fields → IsNamed fields table rule → AreFields rule → IsSpelled text table rule
named_spelled text fields table rule printed is whole = record {
  name = is.name;
  named = name_from_named table is.name is.named;
  spelling = printed.spelling ∙ ap field.printed is.parts;
  some = is.some;
  few = is.few;
  fields = whole;
}

pub some_spelled : (text : List ℕ) (fields : Fields) (result : Option (TableId × Fields)) → IsPrinted text fields → IfSome result (λ (said : TableId × Fields). IsNamed fields said.0 said.1) → IfSome result (λ (said : TableId × Fields). AreFields said.1)
    → IfSome result (λ (said : TableId × Fields). IsSpelled text said.0 said.1)
some_spelled text fields None printed named whole = tt
some_spelled text fields (Some said) printed named whole = named_spelled text fields said.0 said.1 printed named whole

-- ---- what a line says

line_spelled : (line text : List ℕ) (sign other : Sign) (table : TableId) (rule : Fields) → line ≡ sign_byte sign ∷ 32 ∷ text → Says line (Signed other table rule) → IsSpelled text table rule
line_spelled line text sign other table rule parts says =
    let is = line_is line other table rule says in
    let e : sign_byte sign ∷ 32 ∷ text ≡ sign_byte other ∷ 32 ∷ field.printed (is.name ∷ rule) = sym parts ∙ is.spelling in
    record { name = is.name; named = is.named; spelling = cc; some = is.writable.some; few = is.writable.few; fields = is.fields }

-- a sign and no rule
pub signed_nothing : (line text : List ℕ) (sign : Sign) → line ≡ sign_byte sign ∷ 32 ∷ text → ((table : TableId) (rule : Fields) → ¬ (IsSpelled text table rule)) → (item : EditItem) → ¬ (Says line item)
signed_nothing line text sign parts none End says = let e : line ≡ codes "." = cc in absurd cc
signed_nothing line text sign parts none (Signed other table rule) says = none table rule (line_spelled line text sign other table rule parts says)

-- no sign, and not the last line
pub unsigned_nothing : (line : List ℕ) → line ≢ codes "." → ((sign : Sign) (rest : List ℕ) → ¬ (line ≡ sign_byte sign ∷ 32 ∷ rest)) → (item : EditItem) → ¬ (Says line item)
unsigned_nothing line other none End says = other cc
unsigned_nothing line other none (Signed sign table rule) says =
    let is = line_is line sign table rule says in
    none sign (field.printed (is.name ∷ rule)) is.spelling

-- a sign and a rule
pub signed_says : (line text : List ℕ) (sign : Sign) (table : TableId) (rule : Fields) → line ≡ sign_byte sign ∷ 32 ∷ text → IsSpelled text table rule → Says line (Signed sign table rule)
signed_says line text sign table rule parts is =
    says_line line sign table rule (record {
      name = is.name;
      named = is.named;
      spelling = parts ∙ ap (λ (t : List ℕ). sign_byte sign ∷ 32 ∷ t) is.spelling;
      writable = record { named = ap (λ (o : Option (List ℕ)). is_some o) is.named; some = is.some; few = is.few };
      fields = is.fields;
    })

pub last_says : (line : List ℕ) → line ≡ codes "." → Says line End
last_says line e = record { spelling = ap (λ (l : List ℕ). l ∷ []) e; written = record { names = tt; whole = tt } }

-- ---- what stands behind a text at the front of a line

pub behind_text : (line text : List ℕ) (byte : ℕ) (result : Option (Bor (List ℕ))) → text ≡ byte ∷ 32 ∷ []
    → MatchOption result ((rest : List ℕ) → drop 0 line ≢ text ++ rest) (λ (x : Bor (List ℕ)). (k : ℕ) × ((k ≡ length text) × (line ≡ text ++ drop k line) × IsCharBoundary line (length text)) × (x.now ≡ drop k line) × (length x.now + k ≡ length line))
    → MatchOption result ((rest : List ℕ) → ¬ (line ≡ byte ∷ 32 ∷ rest)) (λ (x : Bor (List ℕ)). line ≡ byte ∷ 32 ∷ x.now)
behind_text line text byte None is none = λ rest e. none rest (e ∙ sym (ap (λ (t : List ℕ). t ++ rest) is))
behind_text line text byte (Some x) is found = found.1.1 ∙ ap (λ (t : List ℕ). t ++ drop found.0 line) is ∙ ap (λ (t : List ℕ). byte ∷ 32 ∷ t) (sym found.2)
