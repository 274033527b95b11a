use Rattle.role_graph.specs.Helps.Kept.{linked_of}
use Rattle.role_graph.specs.Helps.Walks.{FitsAt}
use Rattle.role_graph.proofs.MarkLemmas.{next_from}
use Rattle.role_graph.proofs.walk.begin.Goals as goal

pub returns-clause-marks : goal.returns-clause-marks
returns-clause-marks c =
    next_from (λ at. FitsAt (linked_of c.args.links.now) c.args.name.now at) c.args.reached.now c.new-fresh.result c.mark.new.reached c.mark.new.fresh c.new-fresh.ensures c.mark.ensures.marks
