use Rattle.role_domain.specs.Helps.Walks.{walk_of}
use Rattle.role_domain.proofs.Marks.{HasEntered}
use Rattle.role_domain.proofs.walk.enter.Given as goal

abbrev pub invariant-loop-at : goal.invariant-loop-at
invariant-loop-at l = HasEntered (walk_of l.terms l.rows l.text) l.name l.at l.initial.reached l.initial.fresh l.reached l.fresh
