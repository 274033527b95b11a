use Rattle.role_graph.specs.Helps.Kept.{linked_of}
use Rattle.role_graph.proofs.SeekLemmas.{distance_told}
use Rattle.role_graph.proofs.walk.distance.Goals as goal

pub returns : goal.returns
returns c = distance_told (linked_of c.args.links.now) c.args.x.now c.args.y c.args.most c.seek.result c.seek.ensures
