use Rattle.std.proofs.Common.{◌≡◌, ◌++◌, drop}
use Rattle.decision.specs.Plans.{quiet_front}
use Rattle.decision.specs.Helps.KeptPlans.{seen}
use Rattle.decision.proofs.plan.push_quiet.Given as goal

abbrev pub invariant-loop-part : goal.invariant-loop-part
invariant-loop-part l = seen l.front.items ++ quiet_front (seen (drop l.part-index l.parts)) ≡ seen l.fn.front.items ++ quiet_front (seen l.parts)
