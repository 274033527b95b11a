-- What each operator gives for the values of its operands. The place is the operator's.
use Rattle.std.specs.Prelude.{ℕ, ◌+ℤ◌, ◌-ℤ◌, ◌*ℤ◌, neg_ℤ, ◌||◌, Bool, true, false, not, if◌then◌else◌, Option, Some, None, Ok, Err, int_div, int_rem}
use Rattle.std.specs.Cmp.Lexicographic.{slice_cmp}
use Rattle.std.specs.Ordering.{int_cmp, nat_cmp, is_lt, is_le, is_gt, is_ge}
use Rattle.std.specs.declared.cmp.Ordering.{Ordering}
use Rattle.effect_fold.specs.declared.fault.Cause.TheVariants.{Kind}
use Rattle.perm_value.specs.Datum.{Datum, Items}
use Rattle.perm_value.specs.Datum as datum
use Rattle.perm_value.specs.Equality.{datum_eq}
use Rattle.matcher_read.specs.declared.tree.Operator.{Operator}
use Rattle.matcher_read.specs.declared.tree.Operator.TheVariants as op
use Rattle.matcher_meaning.specs.Answers.{Evaluation, fails}
use Rattle.matcher_meaning.specs.Arithmetic.{fitted, divided, of_wholes}

-- `!`
abbrev pub negated : ℕ → Datum → Evaluation
negated at (datum.truth b) = Ok (datum.truth (not b))
negated at _ = fails Kind at

-- `-` before an operand
abbrev pub opposed : ℕ → Datum → Evaluation
opposed at (datum.whole n) = fitted at (neg_ℤ n)
opposed at _ = fails Kind at

-- a side of `&&` or `||`
abbrev pub as_truth : ℕ → Datum → Evaluation
as_truth at (datum.truth b) = Ok (datum.truth b)
as_truth at _ = fails Kind at

-- a left side that ends an operator at this truth
abbrev pub ended_by : ℕ → Bool → Datum → Option Evaluation
ended_by at true (datum.truth true) = Some (Ok (datum.truth true))
ended_by at true (datum.truth false) = None
ended_by at false (datum.truth false) = Some (Ok (datum.truth false))
ended_by at false (datum.truth true) = None
ended_by at _ _ = Some (fails Kind at)

-- what the left side gives alone; None where the right side is evaluated
abbrev pub settled : ℕ → Operator → Datum → Option Evaluation
settled at op.Or d = ended_by at true d
settled at op.And d = ended_by at false d
settled at _ d = None

-- an order of two numbers, or of two texts by their bytes
abbrev pub ordered : ℕ → (Ordering → Bool) → Datum → Datum → Evaluation
ordered at is_so (datum.whole n) (datum.whole m) = Ok (datum.truth (is_so (int_cmp n m)))
ordered at is_so (datum.text s) (datum.text t) = Ok (datum.truth (is_so (slice_cmp nat_cmp s t)))
ordered at is_so _ _ = fails Kind at

-- what both sides give; of `||` and `&&` the left side has not ended it
abbrev pub joined : ℕ → Operator → Datum → Datum → Evaluation
joined at op.Or d e = as_truth at e
joined at op.And d e = as_truth at e
joined at op.Equal d e = Ok (datum.truth (datum_eq d e))
joined at op.NotEqual d e = Ok (datum.truth (not (datum_eq d e)))
joined at op.Less d e = ordered at is_lt d e
joined at op.AtMost d e = ordered at is_le d e
joined at op.Greater d e = ordered at is_gt d e
joined at op.AtLeast d e = ordered at is_ge d e
joined at op.Plus d e = of_wholes at (λ n m. fitted at (n +ℤ m)) d e
joined at op.Minus d e = of_wholes at (λ n m. fitted at (n -ℤ m)) d e
joined at op.Times d e = of_wholes at (λ n m. fitted at (n *ℤ m)) d e
-- the quotient is cut toward zero, and the remainder has the sign of the left side
joined at op.Over d e = of_wholes at (λ n m. divided at n m (int_div n m)) d e
joined at op.Remainder d e = of_wholes at (λ n m. divided at n m (int_rem n m)) d e

-- one of these items is the value
abbrev pub has_item : Datum → Items → Bool
has_item d datum.no_items = false
has_item d (datum.item e es) = datum_eq d e || has_item d es

-- a member is the value, or is a list with an item that is the value
abbrev pub is_member : Datum → Datum → Bool
is_member d (datum.list es) = datum_eq d (datum.list es) || has_item d es
is_member d e = datum_eq d e

-- what a member that was evaluated ends `in` with: true, or its fault; None where the next is evaluated
abbrev pub ended_among : Datum → Evaluation → Option Evaluation
ended_among d (Ok e) = if is_member d e then Some (Ok (datum.truth true)) else None
ended_among d (Err fault) = Some (Err fault)
