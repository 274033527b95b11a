use Rattle.role_graph.specs.Helps.Kept.{linked_of}
use Rattle.role_graph.specs.Helps.Roles.{nodes_of}
use Rattle.role_graph.proofs.Mended.{begun_mended}
use Rattle.role_graph.proofs.repair.drop_gone.Goals as goal

pub returns-clause-begun : goal.returns-clause-begun
returns-clause-begun c =
    begun_mended (linked_of c.args.links.now) (nodes_of c.args.roles.now) c.args.touched.now c.args.square.now.cells c.hit_nodes-hits.result c.mend.new.square.cells c.requires.before
    (c.mend.ensures.mending (linked_of c.args.links.now) (nodes_of c.args.roles.now) c.args.square.now.cells c.reset.ensures.mending) (c.mend.ensures.told (linked_of c.args.links.now) (nodes_of c.args.roles.now) c.args.square.now.cells c.reset.ensures.mending)

pub returns-clause-long : goal.returns-clause-long
returns-clause-long c = (c.mend.ensures.mending (linked_of c.args.links.now) (nodes_of c.args.roles.now) c.args.square.now.cells c.reset.ensures.mending).long
