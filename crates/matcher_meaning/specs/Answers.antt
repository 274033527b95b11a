-- What an expression comes to: a value, or the fault at which its evaluation stopped.
use Rattle.std.specs.Prelude.{◌≡◌, ℕ, List, ◌∷◌, Option, Some, None, Result, Ok, Err}
use Rattle.effect_fold.specs.declared.fault.Cause.{Cause}
use Rattle.effect_fold.specs.declared.fault.Fault.{Fault}
use Rattle.perm_value.specs.Datum.{Datum}

abbrev pub Evaluation : Type 0
Evaluation = Result Datum Fault

-- this cause at this place
abbrev pub fails : {X : Type 0} → Cause → ℕ → Result X Fault
fails cause at = Err (record { cause = cause; at = at })

-- what follows from a value; a fault stays one
abbrev pub then : {X : Type 0} → Evaluation → (Datum → Result X Fault) → Result X Fault
then (Ok d) next = next d
then (Err fault) next = Err fault

-- what is said of an answer behind this one: by its value, or it is the same fault
abbrev pub After : {X Y : Type 0} → Result X Fault → (X → Type 0) → Result Y Fault → Type 0
After (Ok x) next r = next x
After (Err fault) next r = r ≡ Err fault

-- an answer is already there; else it is what is said behind
abbrev pub Unless : Option Evaluation → Type 0 → Evaluation → Type 0
Unless (Some answer) rest r = r ≡ answer
Unless None rest r = rest

-- a value before others; a fault stays one
abbrev pub with_first : Datum → Result (List Datum) Fault → Result (List Datum) Fault
with_first d (Ok ds) = Ok (d ∷ ds)
with_first d (Err fault) = Err fault
