use Rattle.std.proofs.Common.{◌+◌, List, ℕ, sym, subst, arith}
use Rattle.role_graph.specs.Helps.Kept.{linked_of}
use Rattle.role_graph.specs.Helps.Lists.{Lists}
use Rattle.role_graph.specs.Helps.Walks.{FitsAt}
use Rattle.role_graph.proofs.Reached.{IsListed, listed_begins, listed_ends, listed_on, listed_stops, listed_within}
use Rattle.role_graph.proofs.short.list_entered.Goals as goal

pub loop-level-init : goal.loop-level-init
loop-level-init c =
    listed_begins (linked_of c.args.links.now) c.args.x.now c.args.most c.list.new.listed.items (omega (arith, c.len-few.ensures.count, c.len-few.ensures.few))
    (subst (λ (old : List ℕ). Lists (FitsAt (linked_of c.args.links.now) c.args.x.now) (FitsAt (linked_of c.args.links.now) c.args.x.now) old c.list.new.listed.items) c.new-listed.ensures (c.list.ensures c.if-not-list.false))

pub returns-then-from-upto : goal.returns-then-from-upto
returns-then-from-upto c =
    listed_stops (linked_of c.args.links.now) c.args.x.now c.args.most c.loop-level._level c.loop-level.from c.loop-level.listed.items (omega (arith, c.if-from-upto.true, c.len-upto.ensures.value)) c.loop-level.invariant

pub list_on-requires : goal.list_on-requires
list_on-requires c = listed_within (linked_of c.args.links.now) c.args.x.now c.args.most c.loop-level._level c.loop-level.from c.loop-level.listed.items c.loop-level.invariant

pub loop-level-preserved : goal.loop-level-preserved
loop-level-preserved c =
    subst (λ (from : ℕ). IsListed (linked_of c.args.links.now) c.args.x.now c.args.most (c.loop-level._level + 1) from c.list_on.new.listed.items) (sym c.len-upto.ensures.value)
    (listed_on (linked_of c.args.links.now) c.args.x.now c.args.most c.loop-level._level c.loop-level.from c.loop-level.listed.items c.list_on.new.listed.items (omega (arith, c.len-few.ensures.count, c.len-few.ensures.few)) c.loop-level-test.true
    (c.list_on.ensures c.if-not-list_on.false) c.loop-level.invariant)

pub returns : goal.returns
returns c = listed_ends (linked_of c.args.links.now) c.args.x.now c.args.most c.loop-level._level c.loop-level.from c.loop-level.listed.items (omega (arith, c.loop-level-test.false)) c.loop-level.invariant
