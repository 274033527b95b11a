use Rattle.role_graph.proofs.Mended.{lowered_long, lowered_other, lowered_own}
use Rattle.role_graph.proofs.repair.mend_by.Goals as goal

pub returns-clause-cells : goal.returns-clause-cells
returns-clause-cells c = λ b within. lowered_own c.args.square.now.cells c.relax.new.square.cells c.args.node c.args.next b c.size-size.ensures.square c.requires.node c.requires.next within c.relax.ensures.cells

pub returns-clause-others : goal.returns-clause-others
returns-clause-others c = λ a b differ. lowered_other c.args.square.now.cells c.relax.new.square.cells c.args.node c.args.next a b differ c.relax.ensures.cells

pub returns-clause-long : goal.returns-clause-long
returns-clause-long c = lowered_long c.args.square.now.cells c.relax.new.square.cells c.args.node c.args.next c.relax.ensures.cells
