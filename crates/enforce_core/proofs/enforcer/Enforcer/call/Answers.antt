use Rattle.std.proofs.Common.{ap, subst, sym}
use Rattle.std.specs.Arc.{arc_value}
use Rattle.decision.specs.Programs.{Suits}
use Rattle.enforce_core.specs.Called.{CallsTo}
use Rattle.enforce_core.specs.Helps.Held.{place_of}
use Rattle.enforce_core.specs.Seen.{Enforcing}
use Rattle.enforce_core.proofs.enforcer.Enforcer.call.Goals as goal

pub invariant_of-self : goal.invariant_of-self
invariant_of-self c = subst (Suits (arc_value c.self.inside.program)) (sym c.call.ensures.shapes) c.self.invariant

pub returns-clause-ends : goal.returns-clause-ends
returns-clause-ends c = subst (λ (e : Enforcing). CallsTo e.place (place_of c.call.new.self) c.args.text.now c.call.result) c.self.view_is c.call.ensures.ends

pub returns-clause-others : goal.returns-clause-others
returns-clause-others c = ap (λ (e : Enforcing). record e { place = place_of c.call.new.self }) c.self.view_is
