use Rattle.std.proofs.Common.{List, ℕ, subst}
use Rattle.std.specs.List.{Contains}
use Rattle.role_graph.specs.Helps.Kept.{linked_of}
use Rattle.role_graph.specs.Helps.Marks.{Extends, IsSet}
use Rattle.role_graph.specs.Helps.Walks.{FitsAt}
use Rattle.role_graph.proofs.WalkLemmas.{has_gone_all, has_gone_none, has_gone_on}
use Rattle.role_graph.proofs.walk.step.Goals as goal

pub loop-at-init : goal.loop-at-init
loop-at-init c = has_gone_none (linked_of c.args.links.now) c.args.groups.now c.args.reached.now c.new-fresh.result c.new-fresh.ensures

pub loop-at-preserved : goal.loop-at-preserved
loop-at-preserved c =
    has_gone_on (linked_of c.args.links.now) c.args.groups.now c.loop-at.place c.in-Some.at c.args.reached.now c.loop-at.reached c.loop-at.fresh c.mark_all.new.reached c.mark_all.new.fresh
    (c.requires c.in-Some.at c.in-Some.ensures.found.2) c.in-Some.ensures.found.2 c.in-Some.ensures.first
    (subst (λ (roles : List (List ℕ)). Extends (λ at. (name : List ℕ) × Contains roles name × FitsAt (linked_of c.args.links.now) name at) c.loop-at.reached c.loop-at.fresh c.mark_all.new.reached c.mark_all.new.fresh) c.roles_at.ensures c.mark_all.ensures.marks)
    (subst (λ (roles : List (List ℕ)). (at : ℕ) (name : List ℕ) → Contains roles name → FitsAt (linked_of c.args.links.now) name at → IsSet c.mark_all.new.reached at) c.roles_at.ensures c.mark_all.ensures.marked)
    c.loop-at.invariant

pub returns-clause-marked : goal.returns-clause-marked
returns-clause-marked c = has_gone_all (linked_of c.args.links.now) c.args.groups.now c.loop-at.place c.args.reached.now c.loop-at.reached c.loop-at.fresh c.in_default.ensures.none c.loop-at.invariant

pub returns-clause-marks : goal.returns-clause-marks
returns-clause-marks c = c.loop-at.invariant.next
