use Rattle.role_domain.specs.Helps.Walks.{walk_of}
use Rattle.role_domain.proofs.Marks.{HasGone}
use Rattle.role_domain.proofs.walk.step.Given as goal

abbrev pub invariant-loop-at : goal.invariant-loop-at
invariant-loop-at l = HasGone (walk_of l.terms l.rows l.text) l.from l.at l.initial.reached l.reached l.fresh
