use Rattle.std.proofs.Common.{List, ap, arith, length, ℕ}
use Rattle.policy_index.proofs.places.next_place.Goals as goal

pub returns : goal.returns
returns c = omega (arith, c.requires, ap (λ (l : List ℕ). length l) c.of.ensures)
