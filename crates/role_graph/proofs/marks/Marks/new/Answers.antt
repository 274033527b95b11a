use Rattle.role_graph.proofs.MarkLemmas.{none_marked}
use Rattle.role_graph.proofs.marks.Marks.new.Goals as goal

pub returns : goal.returns
returns c = none_marked
