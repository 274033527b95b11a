use Rattle.std.proofs.Common.{◌∙◌, arith}
use Rattle.role_graph.proofs.Mended.{all_same}
use Rattle.role_graph.proofs.repair.mends_row.Goals as goal

pub differs-requires : goal.differs-requires
differs-requires c = omega (arith, c.requires, c.mend_row.ensures.long)

pub returns-clause-same : goal.returns-clause-same
returns-clause-same c = λ fails a b within.
    all_same c.args.node a b c.args.square.now.cells c.mend_row.new.square.cells c.mend_row.ensures.others (c.differs.ensures fails b (omega (arith, within, c.mend_row.ensures.long)) ∙ c.distances_from-before.ensures b within)

pub returns-clause-stable : goal.returns-clause-stable
returns-clause-stable c = λ fails. c.mend_row.ensures.stable (λ b within. c.differs.ensures fails b (omega (arith, within, c.mend_row.ensures.long)) ∙ c.distances_from-before.ensures b within)
