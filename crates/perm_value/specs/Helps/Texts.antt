-- The fields of a line, as the data that a request has of them.
use Rattle.std.specs.Prelude.{ℕ, List, map, Result, Ok, Err}
use Rattle.perm_base.specs.declared.quoted.FieldFault.{FieldFault}
use Rattle.perm_value.specs.Datum.{Datum, text}

-- a text for each field, or why the line is none
abbrev pub as_texts : Result (List (List ℕ)) FieldFault → Result (List Datum) FieldFault
as_texts (Ok fields) = Ok (map text fields)
as_texts (Err fault) = Err fault
