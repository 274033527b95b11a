use Rattle.std.proofs.Common.{subst}
use Rattle.std.specs.List.{IsDistinct}
use Rattle.std.specs.Map.{keys_of}
use Rattle.std.specs.Str.{bytes_eq}
use Rattle.role_domain.specs.Helps.Tallies.{Tallies}
use Rattle.role_domain.proofs.tallies.Tallies.len.Goals as goal

pub returns-clause-once : goal.returns-clause-once
returns-clause-once c = subst (λ (t : Tallies). IsDistinct bytes_eq (keys_of t)) c.self.view_is c.len.ensures.unique
