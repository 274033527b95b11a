use Rattle.std.proofs.Common.{ap, arith, length}
use Rattle.dist_rows.specs.Squares.{Square}
use Rattle.role_graph.proofs.closure.refresh.Goals as goal

pub returns-then-is_flat : goal.returns-then-is_flat
returns-then-is_flat c = λ some. absurd (omega (arith, some, c.is_flat.ensures c.if-is_flat.true))

pub returns-then-not-has_room : goal.returns-then-not-has_room
returns-then-not-has_room c = λ some. absurd (omega (arith, some, ap (λ (square : Square). length square.cells) c.empty.ensures))

pub returns : goal.returns
returns c = λ some. c.follow.ensures
