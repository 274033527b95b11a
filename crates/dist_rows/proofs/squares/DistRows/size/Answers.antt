use Rattle.std.proofs.Common.{subst}
use Rattle.dist_rows.proofs.SquareLemmas.{square_of}
use Rattle.dist_rows.specs.Squares.{IsSquare, Square}
use Rattle.dist_rows.proofs.squares.DistRows.size.Goals as goal

pub returns-clause-square : goal.returns-clause-square
returns-clause-square c = subst (λ (s : Square). IsSquare s.cells) c.self.view_is (square_of c.self.inside.rows.items c.self.inside.free.items _ c.self.invariant)
