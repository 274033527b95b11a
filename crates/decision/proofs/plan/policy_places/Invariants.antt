use Rattle.std.proofs.Common.{◌≡◌, ◌++◌, drop, map}
use Rattle.decision.specs.Plans.{policy_places}
use Rattle.decision.specs.Helps.KeptPlans.{pair_seen}
use Rattle.decision.proofs.plan.policy_places.Given as goal

abbrev pub invariant-loop-pair : goal.invariant-loop-pair
invariant-loop-pair l = l.places.items ++ policy_places (map pair_seen (drop l.pair-index l.pairs)) ≡ policy_places (map pair_seen l.pairs)
