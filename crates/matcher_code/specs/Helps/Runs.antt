-- Runs from a place on, and what they end in.
use Rattle.std.specs.Prelude.{◌≡◌, ◌-◌, ◌≤◌, ℕ, Bool, List, length, map, Some, None, Result, Ok, Err, IsTrue, slice_get}
use Rattle.std.specs.List.{list_any}
use Rattle.effect_fold.specs.declared.fault.Cause.TheVariants.{Pattern}
use Rattle.perm_value.specs.Datum.{Datum}
use Rattle.perm_value.specs.Seen.{datum_of_view}
use Rattle.perm_value.specs.declared.value.View.{View}
use Rattle.matcher_meaning.specs.Answers.{Evaluation, fails}
use Rattle.matcher_meaning.specs.Cases.{Case, where_refused}
use Rattle.matcher_code.specs.Machine.{Runs}
use Rattle.matcher_code.specs.Rules.{height_at}
use Rattle.matcher_code.specs.RunEnds.{searches}
use Rattle.matcher_code.specs.declared.halt.Halt.{Halt}
use Rattle.matcher_code.specs.declared.halt.Halt.TheVariants as halt
use Rattle.matcher_code.specs.declared.op.Op.{Op}
use Rattle.matcher_code.specs.declared.op.Instruction.TheVariants as i
use Rattle.matcher_code.specs.declared.pause.Pause.{Pause}
use Rattle.matcher_code.specs.declared.pause.Pause.TheVariants as pause

-- from a place on, over a stack, the code comes to this answer
abbrev pub ComesFrom : Case → List Op → ℕ → List Datum → Evaluation → Type 0
ComesFrom case ops place stack r = Runs case ops (length ops - place) place stack (Some r)

-- a stack with so many values as the place wants
pub record IsAt (ops : List Op) (place height : ℕ) : Type 0 where
  pub within : place ≤ length ops
  pub reached : height_at ops place ≡ Some height

-- what the code comes to from the second place and stack, it comes to from the first
pub record LeadsOn (case : Case) (ops : List Op) (place : ℕ) (stack : List Datum) (to : ℕ) (rest : List Datum) : Type 0 where
  pub found_is : (r : Evaluation) → ComesFrom (where_refused case None) ops to rest r → ComesFrom (where_refused case None) ops place stack r
  pub refused_is : (at : ℕ) (pattern : List ℕ) → ComesFrom (where_refused case (Some (at, pattern))) ops to rest (fails Pattern at) → ComesFrom (where_refused case (Some (at, pattern))) ops place stack (fails Pattern at)

-- a run stands still at an `eval`
pub record StandsAt (case : Case) (ops : List Op) (place : ℕ) (before : List Datum) (standing : ℕ) (after : List Datum) (at column : ℕ) : Type 0 where
  pub behind : place ≤ standing
  pub leads : LeadsOn case ops place before standing after
  pub over : IsAt ops standing (length after)
  pub there : slice_get ops standing ≡ Some (record { at = at; instruction = i.Eval column })

-- one of these calls `regexMatch`
abbrev pub some_searches : List Op → Bool
some_searches ops = list_any (λ (op : Op). searches op.instruction) ops

-- what a run from a place on ends in, which leaves this stack behind
abbrev pub RunEnds : Case → List Op → ℕ → List View → List View → Result Pause Halt → Type 0
RunEnds case ops place before after (Ok (pause.Value v)) = ComesFrom (where_refused case None) ops place (map datum_of_view before) (Ok (datum_of_view v))
RunEnds case ops place before after (Ok (pause.Eval standing at column)) = StandsAt case ops place (map datum_of_view before) standing (map datum_of_view after) at column
RunEnds case ops place before after (Err (halt.Fault fault)) = ComesFrom (where_refused case None) ops place (map datum_of_view before) (Err fault)
RunEnds case ops place before after (Err (halt.Refused at pattern)) = ComesFrom (where_refused case (Some (at, pattern.now))) ops place (map datum_of_view before) (fails Pattern at)
RunEnds case ops place before after (Err halt.NoMemory) = IsTrue (some_searches ops)
