use Rattle.role_graph.proofs.Marked.{none_marked}
use Rattle.role_graph.proofs.touched.no_nodes.Goals as goal

pub returns : goal.returns
returns c = none_marked
