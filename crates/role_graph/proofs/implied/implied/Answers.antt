use Rattle.std.proofs.Common.{ap}
use Rattle.std.specs.List.{list_any}
use Rattle.std.specs.Str.{bytes_eq}
use Rattle.indexmap.specs.IndexSet.{contains}
use Rattle.role_graph.specs.Helps.Kept.{linked_of}
use Rattle.role_graph.proofs.GatherLemmas.{naming_begins, naming_ends, naming_on, naming_stops}
use Rattle.role_graph.proofs.WalkLemmas.{new_within}
use Rattle.role_graph.proofs.implied.implied.Goals as goal

pub loop-level-init : goal.loop-level-init
loop-level-init c =
    naming_begins (linked_of c.args.links.now) c.args.x.now c.args.most c.new-reached.result c.begin-groups.new.reached c.begin-groups.result c.new-names.result.items (contains bytes_eq c.new-seen.result)
    c.new-reached.ensures c.begin-groups.ensures.marks c.begin-groups.ensures.marked c.new-names.ensures.items (λ y. ap (list_any (bytes_eq y)) c.new-seen.ensures.empty)

pub gather-requires : goal.gather-requires
gather-requires c = new_within (linked_of c.args.links.now) c.args.x.now c.loop-level._level c.loop-level.reached c.loop-level.groups c.loop-level.invariant.reached_are

pub step-groups-requires : goal.step-groups-requires
step-groups-requires c = new_within (linked_of c.args.links.now) c.args.x.now c.loop-level._level c.loop-level.reached c.loop-level.groups c.loop-level.invariant.reached_are

pub returns-then-is_empty : goal.returns-then-is_empty
returns-then-is_empty c =
    naming_stops (linked_of c.args.links.now) c.args.x.now c.args.most c.loop-level._level c.loop-level.reached c.loop-level.groups c.loop-level.names.items (contains bytes_eq c.loop-level.seen) c.loop-level.invariant
    (c.is_empty.ensures c.if-is_empty.true)

pub loop-level-preserved : goal.loop-level-preserved
loop-level-preserved c =
    naming_on (linked_of c.args.links.now) c.args.x.now c.args.most c.loop-level._level c.loop-level.reached c.loop-level.groups c.step-groups.new.reached c.step-groups.result c.loop-level.names.items c.in_ok-fresh.fresh.items c.sort.new.texts.items
    c.append.new.self.items (contains bytes_eq c.loop-level.seen) (contains bytes_eq c.gather.new.seen) c.requires c.loop-level-test.true c.loop-level.invariant c.in_ok-fresh.ensures c.sort.ensures.same
    c.in_ok-sort.ensures.rising c.in_ok-append.ensures.items c.step-groups.ensures.marks c.step-groups.ensures.marked

pub returns : goal.returns
returns c =
    naming_ends (linked_of c.args.links.now) c.args.x.now c.args.most c.loop-level._level c.loop-level.reached c.loop-level.groups c.loop-level.names.items (contains bytes_eq c.loop-level.seen) c.loop-level-test.false
    c.loop-level.invariant
