use Rattle.std.proofs.Common.{◌≡◌, ◌∙◌, arith, get_or, sym}
use Rattle.dist_rows.specs.Squares.{cell_of}
use Rattle.role_graph.proofs.Mended.{next_place}
use Rattle.role_graph.proofs.repair.differs.Goals as goal

pub loop-other-preserved : goal.loop-other-preserved
loop-other-preserved c = next_place (λ b. cell_of c.args.square.now.cells c.args.node b ≡ get_or c.args.before.now b 0) c.loop-other.other c.loop-other.invariant (sym c.distance-far.ensures.cell ∙ c.if-far-was.false)

pub returns : goal.returns
returns c = λ fails b within. c.loop-other.invariant b (omega (arith, within, c.size-other-end.ensures.value, c.loop-other-test.false))
