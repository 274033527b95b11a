-- What one line says, as a function of its fields: a rule, or its fault.
use Rattle.std.proofs.Common.{◌≡◌, ◌≢◌, ℕ, Bool, true, false, ◌==◌, List, [], ◌∷◌, length, eqb, eq-eqb, Option, Some, None, Result, Ok, Err, refl, sym, ap, subst, ◌∙◌, arith}
use Rattle.std.specs.Prelude.{if◌then◌else◌}
use Rattle.std.specs.Option.{option_map_or}
use Rattle.std.proofs.lemmas.Bool.{eqb-false, eqb-true, ne_eqb}
use Rattle.perm_base.proofs.CallerLemmas.{LineIs, fields_of-fault, fields_of-is, first_read, line_is}
use Rattle.perm_base.specs.FieldLine.{IsFields}
use Rattle.perm_base.specs.FieldSteps.{Read, fields_of, first_field}
use Rattle.perm_base.specs.TableNames.{table_named}
use Rattle.perm_base.specs.declared.quoted.FieldFault.{FieldFault}
use Rattle.perm_base.specs.declared.quoted.FieldFault.TheVariants as field
use Rattle.perm_base.specs.declared.shapes.Shapes.{Shapes}
use Rattle.perm_base.specs.declared.shapes.TableId.{TableId}
use Rattle.policy_csv.proofs.NameLemmas.{first_of_many}
use Rattle.policy_csv.specs.Faults.{BeginsWith, HasLongField, HasOtherColumns, IsTextFault, NamesNoTable, columns_named}
use Rattle.policy_csv.specs.Faults.HasOtherColumns.{many_fields, other_number}
use Rattle.policy_csv.specs.Faults.NamesNoTable.{unknown_front, unknown_name}
use Rattle.policy_csv.specs.Policy.{SaysRule}
use Rattle.policy_csv.specs.declared.entry.Entry.{Entry}
use Rattle.policy_csv.specs.declared.fault.PolicyFault.{PolicyFault}
use Rattle.policy_csv.specs.declared.fault.PolicyFault.TheVariants.{NotUtf8, Quote, UnknownTable, Columns, FieldTooLong, Full, NoMemory}
use Rattle.policy_table.specs.Limits.{columns_of, has_short_fields}
use Rattle.policy_table.specs.Tables.{Fields}

-- the rule of these fields in a table of so many columns, where the shapes have it
abbrev of_table : ℕ → Fields → TableId → Option ℕ → Result Entry PolicyFault
of_table number rule table None = Err (UnknownTable number)
of_table number rule table (Some columns) = if columns == length rule then (if has_short_fields rule then Ok (record { table = table; rule = rule }) else Err (FieldTooLong number)) else Err (Columns number)

-- in the table that was named
abbrev of_name : Shapes → ℕ → Fields → Option TableId → Result Entry PolicyFault
of_name shapes number rule None = Err (UnknownTable number)
of_name shapes number rule (Some table) = of_table number rule table (columns_of shapes table)

-- the fault of too many fields, by the columns of the table that the first names
abbrev of_many : ℕ → Option ℕ → Result Entry PolicyFault
of_many number None = Err (UnknownTable number)
of_many number (Some columns) = Err (Columns number)

-- the field that was read first
abbrev first_of : Result Read FieldFault → List ℕ
first_of (Ok read) = read.0
first_of (Err fault) = []

-- what the fields of the line say
abbrev of_fields : Shapes → ℕ → List ℕ → Result (List (List ℕ)) FieldFault → Result Entry PolicyFault
of_fields shapes number text (Ok []) = Err NoMemory
of_fields shapes number text (Ok (name ∷ rule)) = of_name shapes number rule (table_named name)
of_fields shapes number text (Err (field.Quote column)) = Err (Quote number column)
of_fields shapes number text (Err field.TooMany) = of_many number (columns_named shapes (first_of (first_field 0 text)))
of_fields shapes number text (Err field.NoMemory) = Err NoMemory

-- what the line of this number and text says
unfoldable pub line_says : Shapes → ℕ → List ℕ → Result Entry PolicyFault
line_says shapes number text = of_fields shapes number text (fields_of text)

-- ---- what is said is what the function gives

itself : (n : ℕ) → eqb n n ≡ true
itself n = eq-eqb n n refl

-- fields in the table of a known name
named : (shapes : Shapes) (number : ℕ) (name : List ℕ) (rule : Fields) (columns : ℕ) (given : Result Entry PolicyFault) → columns_named shapes name ≡ Some columns
    → ((table : TableId) → of_table number rule table (Some columns) ≡ given) → of_name shapes number rule (table_named name) ≡ given
named shapes number name rule columns given known of_each = by (table_named name) known
  where
    by : (o : Option TableId) → option_map_or (columns_of shapes) o None ≡ Some columns → of_name shapes number rule o ≡ given
    by None e = absurd cc
    by (Some table) e = ap (of_table number rule table) e ∙ of_each table

unnamed : (shapes : Shapes) (number : ℕ) (name : List ℕ) (rule : Fields) → columns_named shapes name ≡ None → of_name shapes number rule (table_named name) ≡ Err (UnknownTable number)
unnamed shapes number name rule unknown = by (table_named name) unknown
  where
    by : (o : Option TableId) → option_map_or (columns_of shapes) o None ≡ None → of_name shapes number rule o ≡ Err (UnknownTable number)
    by None e = refl
    by (Some table) e = ap (of_table number rule table) e

-- the first of too many fields
first_is : (text name : List ℕ) → BeginsWith text name → first_of (first_field 0 text) ≡ name
first_is text name begins = ap first_of (ap (first_field 0) begins.parts ∙ first_read 0 begins.spelling name (Some begins.rest) begins.spelled)

module _ (shapes : Shapes) (number : ℕ) (text : List ℕ) where
  by_fields : (name : List ℕ) (rule : Fields) → IsFields text (name ∷ rule) → line_says shapes number text ≡ of_name shapes number rule (table_named name)
  unfolding line_says
  by_fields name rule is = ap (of_fields shapes number text) (fields_of-is text (name ∷ rule) is)

  by_many : (name : List ℕ) → BeginsWith text name → line_says shapes number text ≡ of_many number (columns_named shapes name)
  unfolding line_says
  by_many name begins = ap (of_fields shapes number text) (fields_of-fault text field.TooMany begins.too_many) ∙ ap (λ (n : List ℕ). of_many number (columns_named shapes n)) (first_is text name begins)

  pub says_rule : (entry : Entry) → SaysRule shapes text entry → line_says shapes number text ≡ Ok entry
  says_rule entry says =
      let short : has_short_fields entry.rule ≡ true = says.short in
      by_fields says.name entry.rule says.fields ∙ ap (of_name shapes number entry.rule) says.named ∙ ap (of_table number entry.rule entry.table) says.columns ∙ rw (itself (length entry.rule), short) refl

  no_table : NamesNoTable shapes text → line_says shapes number text ≡ Err (UnknownTable number)
  no_table (unknown_name name rule is unknown) = by_fields name rule is ∙ unnamed shapes number name rule unknown
  no_table (unknown_front name begins unknown) = by_many name begins ∙ ap (of_many number) unknown

  other_columns : HasOtherColumns shapes text → line_says shapes number text ≡ Err (Columns number)
  other_columns (other_number name rule columns is known differ) = by_fields name rule is ∙ named shapes number name rule columns (Err (Columns number)) known (λ table. rw (ne_eqb columns (length rule) differ) refl)
  other_columns (many_fields name columns begins known) = by_many name begins ∙ ap (of_many number) known

  long_field : HasLongField shapes text → line_says shapes number text ≡ Err (FieldTooLong number)
  long_field is = by_fields is.name is.rule is.fields ∙ named shapes number is.name is.rule (length is.rule) (Err (FieldTooLong number)) is.columns (λ table. rw (itself (length is.rule), is.long) refl)

  bad_quote : (column : ℕ) → IsTextFault shapes number text (Quote number column) → line_says shapes number text ≡ Err (Quote number column)
  unfolding line_says
  bad_quote column is = ap (of_fields shapes number text) (fields_of-fault text (field.Quote column) is.1)

  pub says_fault : (fault : PolicyFault) → IsTextFault shapes number text fault → fault ≢ NoMemory → line_says shapes number text ≡ Err fault
  says_fault NotUtf8 is other = absurd is
  says_fault (Quote at column) is other = bad_quote column (refl, is.1) ∙ ap (λ (n : ℕ). Err (Quote n column)) (sym is.0)
  says_fault (UnknownTable at) is other = no_table is.1 ∙ ap (λ (n : ℕ). Err (UnknownTable n)) (sym is.0)
  says_fault (Columns at) is other = other_columns is.1 ∙ ap (λ (n : ℕ). Err (Columns n)) (sym is.0)
  says_fault (FieldTooLong at) is other = long_field is.1 ∙ ap (λ (n : ℕ). Err (FieldTooLong n)) (sym is.0)
  says_fault (Full at what) is other = absurd is
  says_fault NoMemory is other = absurd (other refl)

-- ---- what the function gives is what is said

abbrev pub LineMeets : Shapes → ℕ → List ℕ → Result Entry PolicyFault → Type 0
LineMeets shapes number text (Ok entry) = SaysRule shapes text entry
LineMeets shapes number text (Err fault) = IsTextFault shapes number text fault × (fault ≢ NoMemory)

module _ (shapes : Shapes) (number : ℕ) (text : List ℕ) where
  fields_meet : (name : List ℕ) (rule : Fields) → IsFields text (name ∷ rule) → LineMeets shapes number text (of_name shapes number rule (table_named name))
  fields_meet name rule is = by_name (table_named name) refl
    where
      by_short : (table : TableId) (short : Bool) → has_short_fields rule ≡ short → table_named name ≡ Some table → columns_of shapes table ≡ Some (length rule) → columns_named shapes name ≡ Some (length rule)
          → LineMeets shapes number text (if short then Ok (record { table = table; rule = rule }) else Err (FieldTooLong number))
      by_short table true s is_named columns known = record {
        name = name;
        fields = is;
        named = is_named;
        columns = columns;
        short = s;
      }
      by_short table false s is_named columns known = (
        (
          refl,
          record {
            name = name;
            rule = rule;
            fields = is;
            columns = known;
            long = s;
          },
        ),
        λ memory. absurd cc,
      )

      by_columns : (table : TableId) (columns : ℕ) (same : Bool) → eqb columns (length rule) ≡ same → table_named name ≡ Some table → columns_of shapes table ≡ Some columns → columns_named shapes name ≡ Some columns
          → LineMeets shapes number text (if same then (if has_short_fields rule then Ok (record { table = table; rule = rule }) else Err (FieldTooLong number)) else Err (Columns number))
      by_columns table columns true e is_named f known =
          let right : Some columns ≡ Some (length rule) = ap (λ (n : ℕ). Some n) (eqb-true columns (length rule) e) in
          by_short table (has_short_fields rule) refl is_named (f ∙ right) (known ∙ right)
      by_columns table columns false e is_named f known = ((refl, other_number name rule columns is known (eqb-false columns (length rule) e)), λ memory. absurd cc)

      by_table : (table : TableId) (o : Option ℕ) → columns_of shapes table ≡ o → table_named name ≡ Some table → columns_named shapes name ≡ o → LineMeets shapes number text (of_table number rule table o)
      by_table table None f is_named unknown = ((refl, unknown_name name rule is unknown), λ memory. absurd cc)
      by_table table (Some columns) f is_named known = by_columns table columns (eqb columns (length rule)) refl is_named f known

      by_name : (o : Option TableId) → table_named name ≡ o → LineMeets shapes number text (of_name shapes number rule o)
      by_name None e = ((refl, unknown_name name rule is (ap (λ (o : Option TableId). option_map_or (columns_of shapes) o None) e)), λ memory. absurd cc)
      by_name (Some table) e = by_table table (columns_of shapes table) refl e (ap (λ (o : Option TableId). option_map_or (columns_of shapes) o None) e)

  many_meet : (name : List ℕ) → BeginsWith text name → LineMeets shapes number text (of_many number (columns_named shapes (first_of (first_field 0 text))))
  many_meet name begins = subst (λ (n : List ℕ). LineMeets shapes number text (of_many number (columns_named shapes n))) (sym (first_is text name begins)) (by (columns_named shapes name) refl)
    where
      by : (o : Option ℕ) → columns_named shapes name ≡ o → LineMeets shapes number text (of_many number o)
      by None e = ((refl, unknown_front name begins e), λ memory. absurd cc)
      by (Some columns) e = ((refl, many_fields name columns begins e), λ memory. absurd cc)

  found_meet : (found : Result (List (List ℕ)) FieldFault) → LineIs text found → LineMeets shapes number text (of_fields shapes number text found)
  found_meet (Ok []) is = absurd (omega (arith, is.some))
  found_meet (Ok (name ∷ rule)) is = fields_meet name rule is
  found_meet (Err (field.Quote column)) is = ((refl, is), λ memory. absurd cc)
  found_meet (Err field.TooMany) is = let first = first_of_many text is in many_meet first.0 first.1
  found_meet (Err field.NoMemory) is = absurd is

  pub line_meets : LineMeets shapes number text (line_says shapes number text)
  unfolding line_says
  line_meets = found_meet (fields_of text) (line_is text)
