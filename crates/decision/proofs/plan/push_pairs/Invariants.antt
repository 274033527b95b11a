use Rattle.std.proofs.Common.{◌≡◌, ◌++◌, drop, map}
use Rattle.decision.specs.Plans.{pairs_in}
use Rattle.decision.specs.Helps.KeptPlans.{pair_seen, seen}
use Rattle.decision.proofs.plan.push_pairs.Given as goal

abbrev pub invariant-loop-part : goal.invariant-loop-part
invariant-loop-part l = map pair_seen l.pairs.items ++ pairs_in l.model (seen (drop l.part-index l.parts)) ≡ map pair_seen l.fn.pairs.items ++ pairs_in l.model (seen l.parts)
