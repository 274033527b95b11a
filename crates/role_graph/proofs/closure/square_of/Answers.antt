use Rattle.std.proofs.Common.{ap, arith, length}
use Rattle.std.proofs.lemmas.Bool.{false≢true}
use Rattle.dist_rows.specs.Squares.{Square}
use Rattle.role_graph.proofs.closure.square_of.Goals as goal

pub returns-then-not-are_kept : goal.returns-then-not-are_kept
returns-then-not-are_kept c = λ some. absurd (omega (arith, some, ap (λ (square : Square). length square.cells) c.empty-square.ensures))

pub returns-then-len-gt-MOST_NODES : goal.returns-then-len-gt-MOST_NODES
returns-then-len-gt-MOST_NODES c = λ some. absurd (omega (arith, some, ap (λ (square : Square). length square.cells) c.empty-square.ensures))

pub reserve_node-requires : goal.reserve_node-requires
reserve_node-requires c = omega (arith, ap (λ (square : Square). length square.cells) c.empty-square.ensures, c.len-2.ensures.count, c.len.ensures.count, c.if-len-gt-MOST_NODES.false)

pub refresh-requires-clause-before : goal.refresh-requires-clause-before
refresh-requires-clause-before c = λ holds some few. absurd (false≢true holds)
