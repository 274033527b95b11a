use Rattle.role_graph.specs.Helps.Kept.{linked_of}
use Rattle.role_graph.specs.Helps.Walks.{IsSought}
use Rattle.role_graph.proofs.Among.{none_among_first, none_among_last, none_among_on, some_among}
use Rattle.role_graph.proofs.walk.some_is_sought.Goals as goal

pub loop-name-init : goal.loop-name-init
loop-name-init c = none_among_first (IsSought (linked_of c.args.links.now) c.args.sought)

pub returns-then-is_sought : goal.returns-then-is_sought
returns-then-is_sought c =
    some_among (IsSought (linked_of c.args.links.now) c.args.sought) c.args.names.now c.loop-name.name-index c.name-item.result c.bytes.result.now c.is_sought.result
    c.loop-name-test.true c.name-item.is c.bytes.ensures.value c.if-is_sought.true c.is_sought.ensures

pub loop-name-preserved : goal.loop-name-preserved
loop-name-preserved c =
    none_among_on (IsSought (linked_of c.args.links.now) c.args.sought) c.args.names.now c.loop-name.name-index c.name-item.result c.bytes.result.now c.is_sought.result
    c.loop-name-test.true c.name-item.is c.bytes.ensures.value c.if-is_sought.false c.is_sought.ensures c.loop-name.invariant

pub returns : goal.returns
returns c = none_among_last (IsSought (linked_of c.args.links.now) c.args.sought) c.args.names.now c.loop-name.name-index c.loop-name-test.false c.loop-name.invariant
