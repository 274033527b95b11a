use Rattle.std.proofs.Common.{◌≡◌, ◌+◌, ◌++◌, drop}
use Rattle.policy_index.specs.Helps.Filters.{columns_from}
use Rattle.policy_index.proofs.filters.columns_of.Given as goal

-- with those of what is left they are all
abbrev pub invariant-loop-place : goal.invariant-loop-place
invariant-loop-place l = l.columns.items ++ columns_from (l.at + l.place) (drop l.place l.values) ≡ columns_from l.at l.values
