use Rattle.role_graph.proofs.closure.follow.Goals as goal

pub begin-touched-requires-clause-before : goal.begin-touched-requires-clause-before
begin-touched-requires-clause-before c = λ holds. c.requires.before (c.keeps_places-keeps.ensures.whole holds) (c.keeps_places-keeps.ensures.some holds)
