use Rattle.std.proofs.Common.{ℕ, List, Bor, map, take}
use Rattle.model_conf.specs.Columns.{AreDistinct}
use Rattle.model_conf.proofs.columns.are_distinct.Given as goal

abbrev pub invariant-loop-at : goal.invariant-loop-at
invariant-loop-at l = AreDistinct (take l.at (map (λ (name : Bor (List ℕ)). name.now) l.names))
