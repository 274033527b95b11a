-- What one line stops at while tables are filled, by the number that is given for the line.
use Rattle.std.specs.Prelude.{◌≡◌, ℕ, true, List}
use Rattle.perm_base.specs.FieldFaults.{IsQuoteFault}
use Rattle.perm_base.specs.declared.shapes.Shapes.{Shapes}
use Rattle.policy_csv.specs.Faults.{BeginsWith, HasLongField, HasOtherColumns, NamesNoTable, Overfills}
use Rattle.policy_csv.specs.declared.fault.PolicyFault.{PolicyFault}
use Rattle.policy_csv.specs.declared.fault.PolicyFault.TheVariants.{NotUtf8, Quote, UnknownTable, Columns, FieldTooLong, Full, NoMemory}
use Rattle.policy_table.specs.Tables.{Policy}
use Rattle.text_parts.specs.Lines.{has_byte}

-- behind lines that have filled these tables the line of this number and text has this fault, or memory ran out
abbrev pub IsStop : Shapes → ℕ → List ℕ → Policy → PolicyFault → Type 0
IsStop shapes number text before NotUtf8 = ⊥
IsStop shapes number text before (Quote at column) = (at ≡ number) × IsQuoteFault text column
IsStop shapes number text before (UnknownTable at) = (at ≡ number) × NamesNoTable shapes text
IsStop shapes number text before (Columns at) = (at ≡ number) × HasOtherColumns shapes text
IsStop shapes number text before (FieldTooLong at) = (at ≡ number) × HasLongField shapes text
IsStop shapes number text before (Full at what) = (at ≡ number) × Overfills shapes text before what
IsStop shapes number text before NoMemory = Unit {0}

-- the text has more fields than a line may have, and the first holds a comma
abbrev pub BeginsWithComma : List ℕ → Type 0
BeginsWithComma text = (name : List ℕ) × BeginsWith text name × (has_byte 44 name ≡ true)
