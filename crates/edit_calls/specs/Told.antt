-- A refusal as an answer.
use Rattle.std.specs.Prelude.{◌≡◌, ⊤, Err}
use Rattle.edit_calls.specs.Answers.{CallAnswer}
use Rattle.edit_calls.specs.declared.refused.CallRefused.{CallRefused}
use Rattle.edit_calls.specs.declared.refused.CallRefused.TheVariants.{NoTable, Columns, FilterPlace, EmptyFilter, FieldTooLong, Full, NoMemory}

-- the refusal is the answer; want of memory may come at any time
abbrev pub IsTold : CallAnswer → CallRefused → Type 0
IsTold told NoMemory = ⊤
IsTold told (NoTable table) = told ≡ Err (NoTable table)
IsTold told (Columns want got) = told ≡ Err (Columns want got)
IsTold told FilterPlace = told ≡ Err FilterPlace
IsTold told EmptyFilter = told ≡ Err EmptyFilter
IsTold told FieldTooLong = told ≡ Err FieldTooLong
IsTold told (Full what) = told ≡ Err (Full what)
