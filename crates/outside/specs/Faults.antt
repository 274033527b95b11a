-- Counts of faults: a count never falls, and it stands still at its end.
use Rattle.std.specs.Prelude.{ℕ, ◌+◌, ◌^◌, ◌-◌, ◌≤◌, min}

-- the greatest count
abbrev pub most_faults : ℕ
most_faults = 2 ^ 64 - 1

-- a count with one more
abbrev pub one_more : ℕ → ℕ
one_more count = min (count + 1) most_faults

-- a count that stood at `before` has risen to `now`, or stands at its end
abbrev pub Rose : ℕ → ℕ → Type 0
Rose before now = min (before + 1) most_faults ≤ now
