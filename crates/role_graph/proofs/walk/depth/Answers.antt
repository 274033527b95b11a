use Rattle.role_graph.proofs.SeekLemmas.{depth_told}
use Rattle.role_graph.proofs.walk.depth.Goals as goal

pub returns : goal.returns
returns c = depth_told c.args.links.now c.args.x.now c.args.most c.unwrap_or.result c.seek.result c.len-few.ensures.sound c.unwrap_or.ensures c.seek.ensures
