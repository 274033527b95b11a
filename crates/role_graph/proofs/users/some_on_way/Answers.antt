use Rattle.role_graph.specs.Helps.Kept.{linked_of}
use Rattle.role_graph.specs.Helps.Users.{IsOnWay}
use Rattle.role_graph.proofs.Among.{none_among_first, none_among_last, none_among_on, some_among}
use Rattle.role_graph.proofs.users.some_on_way.Goals as goal

pub loop-role-init : goal.loop-role-init
loop-role-init c = none_among_first (IsOnWay (linked_of c.args.links.now) c.args.x.now c.args.marks.now)

pub returns-then-is_on_way : goal.returns-then-is_on_way
returns-then-is_on_way c =
    some_among (IsOnWay (linked_of c.args.links.now) c.args.x.now c.args.marks.now) c.args.roles.now c.loop-role.role-index c.role-item.result c.bytes.result.now c.is_on_way.result
    c.loop-role-test.true c.role-item.is c.bytes.ensures.value c.if-is_on_way.true c.is_on_way.ensures

pub loop-role-preserved : goal.loop-role-preserved
loop-role-preserved c =
    none_among_on (IsOnWay (linked_of c.args.links.now) c.args.x.now c.args.marks.now) c.args.roles.now c.loop-role.role-index c.role-item.result c.bytes.result.now c.is_on_way.result
    c.loop-role-test.true c.role-item.is c.bytes.ensures.value c.if-is_on_way.false c.is_on_way.ensures c.loop-role.invariant

pub returns : goal.returns
returns c = none_among_last (IsOnWay (linked_of c.args.links.now) c.args.x.now c.args.marks.now) c.args.roles.now c.loop-role.role-index c.loop-role-test.false c.loop-role.invariant
