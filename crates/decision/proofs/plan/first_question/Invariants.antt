use Rattle.std.proofs.Common.{◌≡◌, drop}
use Rattle.decision.specs.Plans.{first_question}
use Rattle.decision.specs.Helps.KeptPlans.{seen}
use Rattle.decision.proofs.plan.first_question.Given as goal

abbrev pub invariant-loop-part : goal.invariant-loop-part
invariant-loop-part l = first_question l.model (seen (drop l.part-index l.parts)) ≡ first_question l.model (seen l.parts)
