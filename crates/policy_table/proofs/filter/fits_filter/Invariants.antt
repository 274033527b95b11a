use Rattle.std.proofs.Common.{◌≡◌, ◌+◌, drop}
use Rattle.policy_table.specs.Filters.{fits_values}
use Rattle.policy_table.proofs.filter.fits_filter.Given as goal

-- what is left of the filter decides
abbrev pub invariant-loop-place : goal.invariant-loop-place
invariant-loop-place l = fits_values (drop l.at l.rule) l.values ≡ fits_values (drop (l.at + l.place) l.rule) (drop l.place l.values)
