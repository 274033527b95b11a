-- What texts read as: as fields, and as the line of a request.
use Rattle.std.specs.Prelude.{◌≡◌, ◌≢◌, ℕ, Bool, true, false, List, Result, Ok, Err}
use Rattle.serde_json.specs.Read.{read}
use Rattle.perm_base.specs.FieldFaults.{HasTooMany, IsQuoteFault}
use Rattle.perm_base.specs.FieldLine.{IsFields}
use Rattle.perm_value.specs.Fields.{AreTexts, IsLineFault}
use Rattle.perm_value.specs.Json.{values_of}
use Rattle.perm_value.specs.declared.request.RequestFault.TheVariants as fault
use Rattle.policy_table.specs.Tables as table
use Rattle.script_read.specs.Items.{FieldReader, RequestReader}
use Rattle.script_read.specs.Said.{Reading}
use Rattle.script_read.specs.declared.fault.LineCause.{LineCause}
use Rattle.script_read.specs.declared.fault.LineCause.TheVariants.{Word, Quote, Fields, Table, Number, Mixed, Unpaired}

-- the text is these fields, or has a quote out of place, or has too many fields
abbrev pub ReadsFields : List ℕ → Result table.Fields LineCause → Type 0
ReadsFields text (Ok fields) = IsFields text fields
ReadsFields text (Err Quote) = (column : ℕ) × IsQuoteFault text column
ReadsFields text (Err Fields) = HasTooMany text
ReadsFields text (Err Word) = ⊥
ReadsFields text (Err Table) = ⊥
ReadsFields text (Err Number) = ⊥
ReadsFields text (Err Mixed) = ⊥
ReadsFields text (Err Unpaired) = ⊥

-- a line of fields says this: a text for each field, or the line's fault
abbrev pub SaysFields : List ℕ → Reading → Type 0
SaysFields line (Ok values) = AreTexts line values
SaysFields line (Err e) = (e ≢ fault.NoMemory) × IsLineFault line e

-- the line of a request says this, as JSON or as fields
abbrev pub Says : Bool → List ℕ → Reading → Type 0
Says true line reading = values_of (read line) ≡ reading
Says false line reading = SaysFields line reading

-- what each text reads as: its fields, and the request that it is as a line
pub record Reader (json : Bool) : Type 0 where
  pub fields : FieldReader
  pub request : RequestReader
  pub reads : (text : List ℕ) → ReadsFields text (fields text)
  pub says : (text : List ℕ) → Says json text (request text)
