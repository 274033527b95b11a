-- Steps of operators: what an order and two numbers are made into.
use Rattle.std.specs.Prelude.{ℤ, Bool, Result, Ok, Err}
use Rattle.std.specs.declared.cmp.Ordering.{Ordering}
use Rattle.effect_fold.specs.declared.fault.Fault.{Fault}
use Rattle.perm_value.specs.Datum as datum
use Rattle.matcher_meaning.specs.Answers.{Evaluation}

-- whether the order is so; a fault stays one
abbrev pub tested : Result Ordering Fault → (Ordering → Bool) → Evaluation
tested (Ok order) is_so = Ok (datum.truth (is_so order))
tested (Err fault) is_so = Err fault

-- what two numbers give; a fault stays one
abbrev pub given : Result (ℤ × ℤ) Fault → (ℤ → ℤ → Evaluation) → Evaluation
given (Ok both) give = give both.0 both.1
given (Err fault) give = Err fault
