use Rattle.std.proofs.Common.{◌≡◌, ◌++◌, drop, map}
use Rattle.model_conf.specs.Shapes.{place_of}
use Rattle.decision.specs.Helps.KeptPlans.{asked_in, seen}
use Rattle.decision.proofs.plan.push_asked.Given as goal

abbrev pub invariant-loop-part : goal.invariant-loop-part
invariant-loop-part l = l.names.items ++ map (place_of l.columns) (asked_in (seen (drop l.part-index l.parts))) ≡ l.fn.names.items ++ map (place_of l.columns) (asked_in (seen l.parts))
