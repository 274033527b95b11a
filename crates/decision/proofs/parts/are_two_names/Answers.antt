use Rattle.decision.proofs.NameLemmas.{two_with, two_without}
use Rattle.decision.proofs.parts.are_two_names.Goals as goal

pub returns-then-trees-eq2 : goal.returns-then-trees-eq2
returns-then-trees-eq2 c = two_with c.args.trees.now c.are_names.result c.if-trees-eq2.true c.are_names.ensures

pub returns-else-trees-eq2 : goal.returns-else-trees-eq2
returns-else-trees-eq2 c = two_without c.args.trees.now c.if-trees-eq2.false
