use Rattle.role_graph.specs.Helps.Roles.{nodes_of}
use Rattle.role_graph.proofs.LinkedLemmas.{named_near}
use Rattle.role_graph.proofs.closure.link_name.Goals as goal

pub returns-clause-whole : goal.returns-clause-whole
returns-clause-whole c = λ b within same.
    named_near (nodes_of c.args.roles.now) c.args.name.now c.args.node c.in-Some.to b c.insert_link.new.square.cells c.in-Some.ensures.once c.in-Some.ensures.found.0 c.in-Some.ensures.found.1 c.insert_link.ensures.near within same
