use Rattle.std.proofs.Common.{arith}
use Rattle.role_graph.specs.Helps.Kept.{linked_of}
use Rattle.role_graph.specs.Helps.Roles.{nodes_of}
use Rattle.role_graph.proofs.PickLemmas.{listing_begins, listing_ends, listing_on}
use Rattle.role_graph.proofs.role_list.listed.Goals as goal

pub loop-level-init : goal.loop-level-init
loop-level-init c = listing_begins (linked_of c.args.links.now) (nodes_of c.args.roles.now) c.args.x.now c.within-seen.result c.new-names.result.items c.new-names.ensures.items c.within-seen.ensures

pub loop-level-preserved : goal.loop-level-preserved
loop-level-preserved c =
    listing_on (linked_of c.args.links.now) (nodes_of c.args.roles.now) c.args.x.now c.loop-level.level c.loop-level.seen c.within-reached.result c.loop-level.names.items c.in_ok-fresh.fresh.items c.sort.new.texts.items c.append.new.self.items
    c.requires.nodes (omega (arith, c.requires.most, c.loop-level-test.true)) c.loop-level.invariant c.within-reached.ensures c.in_ok-fresh.ensures c.sort.ensures.same c.in_ok-sort.ensures.rising c.in_ok-append.ensures.items

pub returns : goal.returns
returns c =
    listing_ends (linked_of c.args.links.now) (nodes_of c.args.roles.now) c.args.x.now c.loop-level.level c.args.most c.loop-level.seen c.loop-level.names.items (omega (arith, c.loop-level-test.false, c.loop-level.auto.level-end)) c.loop-level.invariant
