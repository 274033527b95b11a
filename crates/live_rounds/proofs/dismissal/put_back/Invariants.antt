use Rattle.std.proofs.Common.{◌≡◌, ◌+◌, ◌≤◌, ◌++◌, length, vec_capacity, vec_len}
use Rattle.live_rounds.proofs.dismissal.put_back.Given as goal

abbrev pub invariant-loop-value : goal.invariant-loop-value
invariant-loop-value g l =
    (l.values.items ++ l.value-iterator.rest.items ≡ l.initial.values.items ++ l.fn.left.rest.items)
    × (vec_len l.values + length l.value-iterator.rest.items ≤ vec_capacity l.values)
    × (vec_capacity l.values ≡ vec_capacity l.initial.values)
