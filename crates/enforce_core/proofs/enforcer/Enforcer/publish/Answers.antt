use Rattle.std.proofs.Common.{ap, subst, sym}
use Rattle.std.specs.Arc.{arc_value}
use Rattle.decision.specs.Programs.{Suits}
use Rattle.enforce_core.specs.Called.{PublishesTo}
use Rattle.enforce_core.specs.Helps.Held.{place_of}
use Rattle.enforce_core.specs.Seen.{Enforcing}
use Rattle.enforce_core.proofs.enforcer.Enforcer.publish.Goals as goal

pub invariant_of-self : goal.invariant_of-self
invariant_of-self c = subst (Suits (arc_value c.self.inside.program)) (sym c.publish.ensures.shapes) c.self.invariant

pub returns-clause-ends : goal.returns-clause-ends
returns-clause-ends c = subst (λ (e : Enforcing). PublishesTo e.place (place_of c.publish.new.self) c.publish.result) c.self.view_is c.publish.ensures.ends

pub returns-clause-others : goal.returns-clause-others
returns-clause-others c = ap (λ (e : Enforcing). record e { place = place_of c.publish.new.self }) c.self.view_is
