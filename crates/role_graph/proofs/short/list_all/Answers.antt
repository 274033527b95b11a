use Rattle.role_graph.specs.Helps.Kept.{linked_of}
use Rattle.role_graph.proofs.ShortLists.{names_first, names_last, names_on}
use Rattle.role_graph.proofs.short.list_all.Goals as goal

pub loop-name-init : goal.loop-name-init
loop-name-init c = names_first (linked_of c.args.links.now) c.args.names.now c.args.listed.now.items

pub loop-name-preserved : goal.loop-name-preserved
loop-name-preserved c =
    names_on (linked_of c.args.links.now) c.args.names.now c.loop-name.name-index c.name-item.result c.bytes.result.now c.args.listed.now.items c.loop-name.listed.items c.list.new.listed.items c.loop-name-test.true c.name-item.is c.bytes.ensures.value
    (c.list.ensures c.if-not-list.false) c.loop-name.invariant

pub returns : goal.returns
returns c = λ yes. names_last (linked_of c.args.links.now) c.args.names.now c.loop-name.name-index c.args.listed.now.items c.loop-name.listed.items c.loop-name-test.false c.loop-name.invariant
