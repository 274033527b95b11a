use Rattle.std.proofs.Common.{refl}
use Rattle.std.specs.Prelude.{None, Ok}
use Rattle.decision.proofs.outcome.truth.Goals as goal

pub returns-in-Some-clause-truth : goal.returns-in-Some-clause-truth
returns-in-Some-clause-truth g c = (refl, (Ok c.in-Some.truth, refl, c.in-Some.ensures None))
