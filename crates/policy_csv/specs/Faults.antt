-- The first fault of a text that is no policy.
use Rattle.std.specs.Prelude.{◌≡◌, ◌≢◌, ℕ, false, List, ◌∷◌, ◌++◌, length, Option, Some, None, IsUtf8}
use Rattle.std.specs.Option.{option_map_or}
use Rattle.perm_base.specs.FieldFaults.{HasTooMany, IsQuoteFault}
use Rattle.perm_base.specs.FieldLine.{IsFields, IsSpelled}
use Rattle.perm_base.specs.TableNames.{table_named}
use Rattle.perm_base.specs.declared.shapes.Shapes.{Shapes}
use Rattle.policy_csv.specs.Lines.{policy_lines}
use Rattle.policy_csv.specs.Policy.{SaysRule, SayRules, filled, with_entry}
use Rattle.policy_csv.specs.declared.entry.Entry.{Entry}
use Rattle.policy_csv.specs.declared.fault.PolicyFault.{PolicyFault}
use Rattle.policy_csv.specs.declared.fault.PolicyFault.TheVariants.{NotUtf8, Quote, UnknownTable, Columns, FieldTooLong, Full, NoMemory}
use Rattle.policy_table.specs.Limits.{columns_of, has_short_fields, passed}
use Rattle.policy_table.specs.Tables.{Fields, Policy}
use Rattle.policy_table.specs.declared.limit.Limit.{Limit}
use Rattle.text_parts.specs.Full.{given_number}
use Rattle.text_parts.specs.Numbered.{Line}

-- the columns of the table that a name names, where the shapes have it
abbrev pub columns_named : Shapes → List ℕ → Option ℕ
columns_named shapes name = option_map_or (columns_of shapes) (table_named name) None

-- the text has more fields than a line may have, and this is the first
pub record BeginsWith (text name : List ℕ) : Type 0 where
  pub too_many : HasTooMany text
  pub spelling : List ℕ
  pub rest : List ℕ
  pub spelled : IsSpelled spelling name
  pub parts : text ≡ spelling ++ 44 ∷ rest

-- the first field is no name of a table of the shapes
pub data NamesNoTable (shapes : Shapes) (text : List ℕ) : Type 0 where
  unknown_name : (name : List ℕ) (rule : Fields) → IsFields text (name ∷ rule) → columns_named shapes name ≡ None → NamesNoTable shapes text
  unknown_front : (name : List ℕ) → BeginsWith text name → columns_named shapes name ≡ None → NamesNoTable shapes text

-- it is the name of such a table, and behind it stand more or fewer fields than its columns
pub data HasOtherColumns (shapes : Shapes) (text : List ℕ) : Type 0 where
  other_number : (name : List ℕ) (rule : Fields) (columns : ℕ) → IsFields text (name ∷ rule) → columns_named shapes name ≡ Some columns → columns ≢ length rule → HasOtherColumns shapes text
  many_fields : (name : List ℕ) (columns : ℕ) → BeginsWith text name → columns_named shapes name ≡ Some columns → HasOtherColumns shapes text

-- they are as many as its columns, and one is too long
pub record HasLongField (shapes : Shapes) (text : List ℕ) : Type 0 where
  pub name : List ℕ
  pub rule : Fields
  pub fields : IsFields text (name ∷ rule)
  pub columns : columns_named shapes name ≡ Some (length rule)
  pub long : has_short_fields rule ≡ false

-- the text says a rule with which the tables pass this limit
pub record Overfills (shapes : Shapes) (text : List ℕ) (before : Policy) (what : Limit) : Type 0 where
  pub entry : Entry
  pub says : SaysRule shapes text entry
  pub full : passed shapes (with_entry entry before) ≡ Some what

-- the line has this fault, behind lines that have filled these tables
abbrev pub IsLineFault : Shapes → Line → Policy → PolicyFault → Type 0
IsLineFault shapes line before NotUtf8 = ⊥
IsLineFault shapes line before (Quote number column) = (number ≡ given_number line.number) × IsQuoteFault line.text column
IsLineFault shapes line before (UnknownTable number) = (number ≡ given_number line.number) × NamesNoTable shapes line.text
IsLineFault shapes line before (Columns number) = (number ≡ given_number line.number) × HasOtherColumns shapes line.text
IsLineFault shapes line before (FieldTooLong number) = (number ≡ given_number line.number) × HasLongField shapes line.text
IsLineFault shapes line before (Full number what) = (number ≡ given_number line.number) × Overfills shapes line.text before what
IsLineFault shapes line before NoMemory = ⊥

-- the line of this number and text has this fault, or memory ran out
abbrev pub IsTextFault : Shapes → ℕ → List ℕ → PolicyFault → Type 0
IsTextFault shapes number text NotUtf8 = ⊥
IsTextFault shapes number text (Quote at column) = (at ≡ number) × IsQuoteFault text column
IsTextFault shapes number text (UnknownTable at) = (at ≡ number) × NamesNoTable shapes text
IsTextFault shapes number text (Columns at) = (at ≡ number) × HasOtherColumns shapes text
IsTextFault shapes number text (FieldTooLong at) = (at ≡ number) × HasLongField shapes text
IsTextFault shapes number text (Full at what) = ⊥
IsTextFault shapes number text NoMemory = Unit {0}

-- behind lines that say rules within the limits stands a line with this fault
pub record IsFaultInLine (shapes : Shapes) (bytes : List ℕ) (fault : PolicyFault) : Type 0 where
  pub front : List Line
  pub line : Line
  pub behind : List Line
  pub entries : List Entry
  pub parts : policy_lines bytes ≡ front ++ line ∷ behind
  pub says : SayRules shapes front entries
  pub within : passed shapes (filled shapes entries) ≡ None
  pub bad : IsLineFault shapes line (filled shapes entries) fault

-- the first fault of the bytes; no bytes are at fault by want of memory
pub data IsPolicyFault (shapes : Shapes) (bytes : List ℕ) (fault : PolicyFault) : Type 0 where
  not_utf8 : ¬ (IsUtf8 bytes) → fault ≡ NotUtf8 → IsPolicyFault shapes bytes fault
  in_line : IsUtf8 bytes → IsFaultInLine shapes bytes fault → IsPolicyFault shapes bytes fault
