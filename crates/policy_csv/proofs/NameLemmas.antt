-- The first field of a line of too many fields, and that no name of a table holds a comma.
use Rattle.std.proofs.Common.{◌≡◌, ℕ, zero, suc, ◌<◌, Bool, true, false, List, [], ◌∷◌, ◌++◌, codes, length, All, Option, Some, None, Result, Ok, refl, sym, ap, ◌∙◌, subst, true≢false, arith}
use Rattle.std.specs.List.{AllZip, flat_map, join_by}
use Rattle.std.specs.Option.{option_map_or}
use Rattle.std.proofs.lemmas.List.{append_assoc, append-nil}
use Rattle.std.proofs.lemmas.List.Elements.{All-from_recursion}
use Rattle.std.proofs.lemmas.Option.{get_or_from_slice_get, slice_get_within}
use Rattle.perm_base.proofs.CallerLemmas.{first_read, name_from_named}
use Rattle.perm_base.specs.FieldFaults.{HasTooMany}
use Rattle.perm_base.specs.FieldLine.{IsFields, IsSpelled}
use Rattle.perm_base.specs.FieldSteps.{Read, first_field}
use Rattle.perm_base.specs.TableNames.{name_of, table_named, table_names}
use Rattle.perm_base.specs.declared.quoted.FieldFault.{FieldFault}
use Rattle.perm_base.specs.declared.shapes.Shapes.{Shapes}
use Rattle.perm_base.specs.declared.shapes.TableId.{TableId}
use Rattle.perm_base.specs.declared.shapes.TableId.TheVariants.{P, G}
use Rattle.policy_csv.proofs.SpelledLemmas.{no_comma_spelled}
use Rattle.policy_csv.specs.Faults.{BeginsWith, columns_named}
use Rattle.policy_csv.specs.Helps.Entries.{BeginsWithComma}
use Rattle.policy_table.specs.Limits.{columns_of}
use Rattle.text_parts.specs.Lines.{has_byte}
use Rattle.text_parts.proofs.CallerLemmas.{cut_once, has_byte-here}

-- no name of a table holds a comma
named_by : (front name : List ℕ) → Some front ≡ Some name → has_byte 44 front ≡ false → has_byte 44 name ≡ false
named_by front name e none = let same : front ≡ name = cc in ap (has_byte 44) (sym same) ∙ none

named_no_comma : (table : TableId) (name : List ℕ) → name_of table ≡ Some name → has_byte 44 name ≡ false
named_no_comma P name e = named_by (codes "p") name e refl
named_no_comma (G zero) name e = absurd cc
named_no_comma (G (suc at)) name e =
    let all : All (λ (text : List ℕ). has_byte 44 text ≡ false) table_names = All-from_recursion (λ (text : List ℕ). has_byte 44 text ≡ false) table_names (refl, (refl, (refl, (refl, (refl, (refl, (refl, (refl, (refl, tt))))))))) in
    subst (λ (text : List ℕ). has_byte 44 text ≡ false) (get_or_from_slice_get table_names (suc at) name name e) (all (suc at) name (slice_get_within table_names (suc at) name e))

pub comma_names_none : (shapes : Shapes) (name : List ℕ) → has_byte 44 name ≡ true → columns_named shapes name ≡ None
comma_names_none shapes name has = by (table_named name) refl
  where
    by : (o : Option TableId) → table_named name ≡ o → option_map_or (columns_of shapes) o None ≡ None
    by None e = refl
    by (Some table) e = absurd (true≢false (sym has ∙ named_no_comma table name (name_from_named table name e)))

-- one field, and a line without a comma
pub one_field : (text name : List ℕ) → IsSpelled text name → IsFields text (name ∷ [])
one_field text name is = record {
  some = omega arith;
  few = omega arith;
  spellings = text ∷ [];
  spelled = (is, tt);
  parts = sym (append-nil text);
}

pub record IsOnly (text : List ℕ) (fields : List (List ℕ)) : Type 0 where
  pub name : List ℕ
  pub alone : fields ≡ name ∷ []
  pub spelled : IsSpelled text name

pub only_field : (text : List ℕ) (fields : List (List ℕ)) → has_byte 44 text ≡ false → IsFields text fields → IsOnly text fields
only_field text fields none is = by fields is.spellings is.some is.spelled is.parts
  where
    by : (fields spellings : List (List ℕ)) → 0 < length fields → AllZip IsSpelled spellings fields → text ≡ join_by (λ (spelling : List ℕ). spelling) (44 ∷ []) spellings → IsOnly text fields
    by [] spellings some all parts = absurd (omega (arith, some))
    by (name ∷ fields) [] some all parts = absurd all
    by (name ∷ []) (spelling ∷ []) some all parts = record {
      name = name;
      alone = refl;
      spelled = subst (λ (t : List ℕ). IsSpelled t name) (sym (parts ∙ append-nil spelling)) all.0;
    }
    by (name ∷ []) (spelling ∷ next ∷ spellings) some all parts = absurd all.1
    by (name ∷ field ∷ fields) (spelling ∷ []) some all parts = absurd all.1
    by (name ∷ field ∷ fields) (spelling ∷ next ∷ spellings) some all parts =
        let here : has_byte 44 text ≡ true = ap (has_byte 44) parts ∙ has_byte-here 44 spelling (join_by (λ (s : List ℕ). s) (44 ∷ []) (next ∷ spellings)) in
        absurd (true≢false (sym here ∙ none))

-- the first field of a line of too many
pub first_of_many : (text : List ℕ) → HasTooMany text → (name : List ℕ) × BeginsWith text name
first_of_many text many = by many.ended.fields many.ended.spellings many.ended.counted many.ended.spelled many.ended.parts
  where
    ends : List (List ℕ) → List ℕ
    ends spellings = flat_map (λ (spelling : List ℕ). spelling ++ 44 ∷ []) spellings

    by : (fields spellings : List (List ℕ)) → length fields ≡ 34 → AllZip IsSpelled spellings fields → many.front ≡ flat_map (λ (spelling : List ℕ). spelling ++ 44 ∷ []) spellings → (name : List ℕ) × BeginsWith text name
    by [] spellings counted all parts = absurd (omega (arith, counted))
    by (name ∷ fields) [] counted all parts = absurd all
    by (name ∷ fields) (spelling ∷ spellings) counted all parts = (
      name,
      record {
        too_many = many;
        spelling = spelling;
        rest = flat_map (λ (s : List ℕ). s ++ 44 ∷ []) spellings ++ many.rest;
        spelled = all.0;
        parts = many.parts ∙ ap (λ (t : List ℕ). t ++ many.rest) parts ∙ simp append_assoc;
      },
    )

same_first : (x y : Read) (read : Result Read FieldFault) → read ≡ Ok x → read ≡ Ok y → x.0 ≡ y.0
same_first x y read one other = let same : x ≡ y = cc in ap (λ (r : Read). r.0) same

pub BeginsWith-once : (text first second : List ℕ) → BeginsWith text first → BeginsWith text second → first ≡ second
BeginsWith-once text first second one two = same_first (first, Some one.rest) (second, Some two.rest) (first_field 0 text) (read first one) (read second two)
  where
    read : (name : List ℕ) (is : BeginsWith text name) → first_field 0 text ≡ Ok (name, Some is.rest)
    read name is = ap (first_field 0) is.parts ∙ first_read 0 is.spelling name (Some is.rest) is.spelled

-- what stands before the first comma is its first field
pub begins_before : (text first rest name : List ℕ) → HasTooMany text → text ≡ first ++ 44 ∷ rest → IsSpelled first name → BeginsWith text name
begins_before text first rest name many parts is = record {
  too_many = many;
  spelling = first;
  rest = rest;
  spelled = is;
  parts = parts;
}

-- or else that field holds a comma
pub comma_before : (text first rest : List ℕ) → HasTooMany text → text ≡ first ++ 44 ∷ rest → has_byte 44 first ≡ false → ((fields : List (List ℕ)) → IsFields first fields → ⊥) → BeginsWithComma text
comma_before text first rest many parts none no_fields = by (first_of_many text many).0 (first_of_many text many).1 (has_byte 44 (first_of_many text many).0) refl
  where
    by : (name : List ℕ) → BeginsWith text name → (has : Bool) → has_byte 44 name ≡ has → BeginsWithComma text
    by name begins true e = (name, begins, e)
    by name begins false e =
        let cut = cut_once 44 begins.spelling first begins.rest rest (no_comma_spelled begins.spelling name begins.spelled e) none (sym begins.parts ∙ parts) in
        absurd (no_fields (name ∷ []) (one_field first name (subst (λ (t : List ℕ). IsSpelled t name) cut.0 begins.spelled)))

-- a line of too many fields has a comma
pub many_has_comma : (text : List ℕ) → HasTooMany text → has_byte 44 text ≡ true
many_has_comma text many =
    let first = first_of_many text many in
    ap (has_byte 44) first.1.parts ∙ has_byte-here 44 first.1.spelling first.1.rest
