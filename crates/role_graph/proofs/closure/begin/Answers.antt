use Rattle.std.proofs.Common.{arith}
use Rattle.role_graph.specs.Helps.Kept.{linked_of}
use Rattle.role_graph.specs.Helps.Roles.{nodes_of}
use Rattle.role_graph.proofs.LinkedLemmas.{begun_anew}
use Rattle.role_graph.proofs.closure.begin.Goals as goal

pub drop_gone-requires-clause-before : goal.drop_gone-requires-clause-before
drop_gone-requires-clause-before c = c.requires.before c.if-whole.true

pub returns-clause-begun : goal.returns-clause-begun
returns-clause-begun c =
    begun_anew (linked_of c.args.links.now) (nodes_of c.args.roles.now) c.nodes_from.result c.clear.new.square.cells (λ a within. c.nodes_from.ensures a (omega arith) within) c.requires.few
    (omega (arith, c.clear.ensures.long, c.shrink.ensures.few, c.len.ensures.count)) c.clear.ensures.closed c.clear.ensures.none
