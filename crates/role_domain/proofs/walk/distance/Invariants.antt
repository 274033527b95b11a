use Rattle.role_domain.specs.Helps.Walks.{walk_of}
use Rattle.role_domain.proofs.WalkLemmas.{IsWalking}
use Rattle.role_domain.proofs.walk.distance.Given as goal

abbrev pub invariant-loop-level : goal.invariant-loop-level
invariant-loop-level l = IsWalking (walk_of l.terms l.rows l.text) l.fn.x l.y l.level l.reached l.fresh
