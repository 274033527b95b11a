use Rattle.role_graph.proofs.Closed.{insert_grows, near_new}
use Rattle.role_graph.proofs.insertion.insert_link.Goals as goal

pub returns-clause-near : goal.returns-clause-near
returns-clause-near c =
    near_new c.args.square.now.cells c.lower_all.new.square.cells c.args.from c.args.to c.requires.closed c.requires.from c.requires.to
    (record { long = c.lower_all.ensures.long; square = c.lower_all.ensures.square; cells = c.lower_all.ensures.cells })

pub returns-clause-grows : goal.returns-clause-grows
returns-clause-grows c =
    insert_grows c.args.square.now.cells c.lower_all.new.square.cells c.args.from c.args.to c.requires.closed c.requires.from c.requires.to
    (record { long = c.lower_all.ensures.long; square = c.lower_all.ensures.square; cells = c.lower_all.ensures.cells })
