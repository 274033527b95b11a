use Rattle.std.proofs.Common.{List, ℕ, subst}
use Rattle.std.specs.Str.{bytes_eq}
use Rattle.indexmap.specs.IndexSet.{contains}
use Rattle.role_graph.specs.Helps.Kept.{linked_of}
use Rattle.role_graph.specs.Helps.Names.{Adds}
use Rattle.role_graph.proofs.GatherLemmas.{gathered_all, gathered_more, gathered_none}
use Rattle.role_graph.proofs.implied.gather.Goals as goal

pub loop-at-init : goal.loop-at-init
loop-at-init c = gathered_none (linked_of c.args.links.now) c.args.x.now c.args.groups.now (contains bytes_eq c.args.seen.now) c.new-fresh.result.items c.new-fresh.ensures.items

pub loop-at-preserved : goal.loop-at-preserved
loop-at-preserved c =
    gathered_more (linked_of c.args.links.now) c.args.x.now c.args.groups.now c.loop-at.place c.in-Some.at (contains bytes_eq c.args.seen.now) (contains bytes_eq c.loop-at.seen) (contains bytes_eq c.add_new.new.seen)
    c.loop-at.fresh.items c.add_new.new.fresh.items (c.requires c.in-Some.at c.in-Some.ensures.found.2) c.in-Some.ensures.found.2 c.in-Some.ensures.first
    (subst (λ (roles : List (List ℕ)). Adds c.args.x.now roles (contains bytes_eq c.loop-at.seen) (contains bytes_eq c.add_new.new.seen) c.loop-at.fresh.items c.add_new.new.fresh.items) c.roles_at.ensures c.in_ok-add_new.ensures)
    c.loop-at.invariant

pub returns : goal.returns
returns c =
    gathered_all (linked_of c.args.links.now) c.args.x.now c.args.groups.now c.loop-at.place (contains bytes_eq c.args.seen.now) (contains bytes_eq c.loop-at.seen) c.loop-at.fresh.items c.in_default.ensures.none c.loop-at.invariant
