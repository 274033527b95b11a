use Rattle.std.proofs.Common.{◌≡◌, drop}
use Rattle.std.specs.Prelude.{nat_lt}
use Rattle.std.specs.List.{list_all}
use Rattle.policy_index.proofs.key.are_below.Given as goal

abbrev pub invariant-loop-column : goal.invariant-loop-column
invariant-loop-column l = list_all (λ column. nat_lt column l.count) (drop l.column-index l.columns) ≡ list_all (λ column. nat_lt column l.count) l.columns
