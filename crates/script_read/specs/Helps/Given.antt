-- What texts read as, as functions, and what readers give back.
use Rattle.std.specs.Prelude.{◌≡◌, ℕ, List, Result, Ok, Err}
use Rattle.perm_base.specs.FieldSteps.{fields_of}
use Rattle.perm_base.specs.declared.quoted.FieldFault.{FieldFault}
use Rattle.perm_base.specs.declared.quoted.FieldFault.TheVariants as field
use Rattle.policy_table.specs.Tables.{Fields}
use Rattle.script_read.specs.declared.fault.LineCause.{LineCause}
use Rattle.script_read.specs.declared.fault.LineCause.TheVariants as cause
use Rattle.script_read.specs.declared.fault.ScriptFault.{ScriptFault}
use Rattle.script_read.specs.declared.fault.ScriptFault.TheVariants.{NotUtf8, Line, OpenBatch, NoMemory}

-- why a line is no item that is not read as fields
abbrev pub cause_of : FieldFault → LineCause
cause_of (field.Quote column) = cause.Quote
cause_of field.TooMany = cause.Fields
cause_of field.NoMemory = cause.Fields

abbrev pub by_cause : Result Fields FieldFault → Result Fields LineCause
by_cause (Ok found) = Ok found
by_cause (Err fault) = Err (cause_of fault)

-- the fields of a text
unfoldable pub fields_read : List ℕ → Result Fields LineCause
fields_read line = by_cause (fields_of line)

-- the fault is the one that reading gives, unless memory ran out
abbrev pub Fails : {Y : Type 0} → ScriptFault → Result Y ScriptFault → Type 0
Fails NotUtf8 read = read ≡ Err NotUtf8
Fails (Line line cause) read = read ≡ Err (Line line cause)
Fails (OpenBatch line) read = read ≡ Err (OpenBatch line)
Fails NoMemory read = Unit {0}

-- what a function returned, seen by view, is what reading gives, unless memory ran out
abbrev pub Gives : {X Y : Type 0} → (X → Y) → Result X ScriptFault → Result Y ScriptFault → Type 0
Gives view (Ok x) read = read ≡ Ok (view x)
Gives view (Err fault) read = Fails fault read

-- reading gives something, or the fault that was found, unless memory ran out
abbrev pub Checks : {Y : Type 0} → Result (Unit {0}) ScriptFault → Result Y ScriptFault → Type 0
Checks {Y = Y} (Ok none) read = (y : Y) × (read ≡ Ok y)
Checks (Err fault) read = Fails fault read
