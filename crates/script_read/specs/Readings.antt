-- What the line of a request is read as, as JSON or as fields: its data, or why it is none.
use Rattle.std.specs.Prelude.{ℕ, Bool, true, false, List, map, Result, Ok, Err}
use Rattle.serde_json.specs.Read.{read}
use Rattle.perm_base.specs.FieldSteps.{fields_of}
use Rattle.perm_base.specs.declared.quoted.FieldFault.{FieldFault}
use Rattle.perm_value.specs.Datum.{Datum, text}
use Rattle.perm_value.specs.Fields as fields
use Rattle.perm_value.specs.Json.{values_of}
use Rattle.perm_value.specs.declared.request.RequestFault.{RequestFault}
use Rattle.policy_table.specs.Tables.{Fields}

-- what the line of a request is read as
abbrev pub Reading : Type 0
Reading = Result (List Datum) RequestFault

-- the data of a text for each field
abbrev pub as_texts : Result Fields FieldFault → Reading
as_texts (Ok found) = Ok (map text found)
as_texts (Err fault) = Err (fields.fault_of fault)

abbrev pub by_form : Bool → List ℕ → Reading
by_form true line = values_of (read line)
by_form false line = as_texts (fields_of line)

-- the request that a line is
unfoldable pub request_read : Bool → List ℕ → Reading
request_read json line = by_form json line
