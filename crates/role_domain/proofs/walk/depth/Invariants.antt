use Rattle.role_domain.specs.Helps.Walks.{walk_of}
use Rattle.role_domain.proofs.ClimbLemmas.{IsClimbing}
use Rattle.role_domain.proofs.walk.depth.Given as goal

abbrev pub invariant-loop-level : goal.invariant-loop-level
invariant-loop-level l = IsClimbing (walk_of l.terms l.rows l.text) l.fn.x l.level l.reached l.fresh
