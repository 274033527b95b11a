-- What a machine does with the code of a matcher: instructions in order, each with its place in the code, counted from 0, over a stack of values, the top first.
use Rattle.std.specs.Prelude.{◌≡◌, ℕ, ◌+◌, zero, suc, false, true, List, [], ◌∷◌, length, Option, Some, None, Ok, Err, MatchOption, get_or, slice_get}
use Rattle.effect_fold.specs.declared.fault.Fault.{Fault}
use Rattle.matcher_read.specs.Calls.{arity}
use Rattle.matcher_read.specs.Expression.{Callee, function, relation}
use Rattle.perm_value.specs.Datum.{Datum}
use Rattle.perm_value.specs.Datum as datum
use Rattle.policy_table.specs.Tables.{Fields}
use Rattle.matcher_meaning.specs.Answers.{Evaluation}
use Rattle.matcher_meaning.specs.CaseCalls.{Gives}
use Rattle.matcher_meaning.specs.Cases.{Case}
use Rattle.matcher_meaning.specs.Comes.{Evaluates}
use Rattle.matcher_meaning.specs.Meaning.{along}
use Rattle.matcher_meaning.specs.Operators.{negated, opposed, as_truth, ended_by, joined, ended_among}
use Rattle.matcher_code.specs.declared.op.Op.{Op}
use Rattle.matcher_code.specs.declared.op.Instruction.{Instruction}
use Rattle.matcher_code.specs.declared.op.Instruction.TheVariants as i

-- what an instruction leads to
pub data Next : Type 0 where
  failed : Fault → Next
  -- on at this place over this stack
  goes : ℕ → List Datum → Next
  -- an operand is not there
  lacks : Next

-- on behind the instruction at a place, with the value of an answer on the stack; a fault ends the run
abbrev pub onward : ℕ → List Datum → Evaluation → Next
onward place below (Ok d) = goes (place + 1) (d ∷ below)
onward place below (Err fault) = failed fault

-- the same by an answer of which this holds
abbrev pub ByAnswer : ℕ → List Datum → (Evaluation → Type 0) → Next → Type 0
ByAnswer place below Is next = (x : Evaluation) × Is x × (next ≡ onward place below x)

-- on at another place, where an answer is already there; else as is said
abbrev pub jumping : ℕ → List Datum → Option Evaluation → Next → Next
jumping to below None next = next
jumping to below (Some (Ok d)) next = goes to (d ∷ below)
jumping to below (Some (Err fault)) next = failed fault

-- so many top values, the deepest first and before these, and what is below them; None where there are too few
abbrev pub taken : ℕ → List Datum → List Datum → Option (List Datum × List Datum)
taken zero ds stack = Some (ds, stack)
taken (suc more) ds [] = None
taken (suc more) ds (d ∷ stack) = taken more (d ∷ ds) stack

-- a call of this for the values that were taken
abbrev pub Called : Case → ℕ → ℕ → Callee → Option (List Datum × List Datum) → Next → Type 0
Called case place at callee None next = next ≡ lacks
Called case place at callee (Some parts) next = ByAnswer place parts.1 (Gives case at callee parts.0) next

-- the field of a row in a column; without a row, or without the column, it is the empty text
abbrev pub field_at : Option Fields → ℕ → List ℕ
field_at None column = []
field_at (Some row) column = get_or row column []

-- what an instruction at a place of the code, which serves the node at this place of the matcher's text, does to a stack
abbrev pub Does : Case → ℕ → ℕ → Instruction → List Datum → Next → Type 0
Does case place at (i.Text bytes) stack next = next ≡ goes (place + 1) (datum.text bytes ∷ stack)
Does case place at (i.Whole n) stack next = next ≡ goes (place + 1) (datum.whole n ∷ stack)
Does case place at (i.Truth b) stack next = next ≡ goes (place + 1) (datum.truth b ∷ stack)
Does case place at (i.Request column) stack next = next ≡ onward place stack (along at (slice_get case.request column) [])
Does case place at (i.Policy column) stack next = next ≡ goes (place + 1) (datum.text (field_at case.row column) ∷ stack)
Does case place at (i.Attribute name) (d ∷ below) next = next ≡ onward place below (along at (Some d) (name ∷ []))
Does case place at i.Not (d ∷ below) next = next ≡ onward place below (negated at d)
Does case place at i.Negate (d ∷ below) next = next ≡ onward place below (opposed at d)
Does case place at (i.Binary op) (e ∷ d ∷ below) next = next ≡ onward place below (joined at op d e)
Does case place at (i.SkipFalse to) (d ∷ below) next = next ≡ jumping to below (ended_by at false d) (goes (place + 1) below)
Does case place at (i.SkipTrue to) (d ∷ below) next = next ≡ jumping to below (ended_by at true d) (goes (place + 1) below)
Does case place at i.NeedTruth (d ∷ below) next = next ≡ onward place below (as_truth at d)
Does case place at (i.Member to) (e ∷ d ∷ below) next = next ≡ jumping to below (ended_among d (Ok e)) (goes (place + 1) (d ∷ below))
Does case place at i.Miss (d ∷ below) next = next ≡ goes (place + 1) (datum.truth false ∷ below)
Does case place at (i.Function called) stack next = Called case place at (function called) (taken (arity called) [] stack) next
Does case place at (i.Role number names) stack next = Called case place at (relation number) (taken names [] stack) next
Does case place at (i.Eval column) stack next = ByAnswer place stack (Evaluates case at (get_or case.model.policy column [])) next
Does case place at _ _ next = next ≡ lacks

-- what the instruction at a place of the code does to a stack
abbrev pub Executes : Case → ℕ → Op → List Datum → Next → Type 0
Executes case place op stack next = Does case place op.at op.instruction stack next

-- the value on top of a stack
abbrev pub top : List Datum → Option Evaluation
top [] = None
top (d ∷ below) = Some (Ok d)

-- what is said of a run behind an instruction
abbrev pub Onward : Next → (ℕ → List Datum → Type 0) → Option Evaluation → Type 0
Onward (failed fault) Rest r = r ≡ Some (Err fault)
Onward (goes place stack) Rest r = Rest place stack
Onward lacks Rest r = r ≡ None

-- a run from a place on, of so many instructions at most, comes to this answer, or to none: behind the last instruction the top value is the answer
unfoldable pub Runs : Case → List Op → ℕ → ℕ → List Datum → Option Evaluation → Type 0
Runs case ops zero place stack r = MatchOption (slice_get ops place) (r ≡ top stack) (λ op. r ≡ None)
Runs case ops (suc left) place stack r = MatchOption (slice_get ops place) (r ≡ top stack) (λ op. (next : Next) × Executes case place op stack next × Onward next (λ to rest. Runs case ops left to rest r) r)

-- the code comes to this answer: it runs from its first instruction over an empty stack
abbrev pub CodeComesTo : Case → List Op → Evaluation → Type 0
CodeComesTo case ops r = Runs case ops (length ops) 0 [] (Some r)
