use Rattle.std.proofs.Common.{◌≡◌, drop}
use Rattle.decision.specs.Plans.{first_fitting}
use Rattle.decision.specs.Helps.KeptPlans.{seen}
use Rattle.decision.proofs.plan.first_fitting.Given as goal

abbrev pub invariant-loop-part : goal.invariant-loop-part
invariant-loop-part l = first_fitting l.model (seen (drop l.part-index l.parts)) ≡ first_fitting l.model (seen l.parts)
