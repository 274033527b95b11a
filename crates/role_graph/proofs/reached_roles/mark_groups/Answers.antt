use Rattle.std.proofs.Common.{◌<◌, ◌+◌, arith}
use Rattle.role_graph.specs.Helps.Kept.{linked_of}
use Rattle.role_graph.specs.Helps.Marks.{IsSet}
use Rattle.role_graph.specs.Helps.Roles.{nodes_of}
use Rattle.role_graph.proofs.Nearest.{roles_of_nodes}
use Rattle.role_graph.proofs.Reached.{all_before, before_here, group_set, groups_alike, no_group_set}
use Rattle.role_graph.proofs.reached_roles.mark_groups.Goals as goal

pub loop-at-init : goal.loop-at-init
loop-at-init c = λ a within.
    no_group_set (linked_of c.args.links.now) (nodes_of c.args.roles.now) (λ at. (at < 0) × IsSet c.args.groups.now at) c.args.marks.now a (λ at one. absurd (omega (arith, one.0)))

pub roles_at-requires : goal.roles_at-requires
roles_at-requires c = c.requires.within c.in-Some.at c.in-Some.ensures.found.2

pub mark_roles-requires-clause-roles : goal.mark_roles-requires-clause-roles
mark_roles-requires-clause-roles c = λ role stands.
    roles_of_nodes (linked_of c.args.links.now) (nodes_of c.args.roles.now) c.in-Some.at c.roles_at.result.now role c.requires.nodes c.roles_at.ensures (c.requires.within c.in-Some.at c.in-Some.ensures.found.2) stands

pub loop-at-preserved : goal.loop-at-preserved
loop-at-preserved c = λ a within.
    group_set (linked_of c.args.links.now) (nodes_of c.args.roles.now) (λ at. (at < c.loop-at.place) × IsSet c.args.groups.now at) (λ at. (at < c.in-Some.at + 1) × IsSet c.args.groups.now at) c.in-Some.at c.roles_at.result.now
    c.args.marks.now c.loop-at.marks c.mark_roles.new.marks a c.roles_at.ensures (c.requires.within c.in-Some.at c.in-Some.ensures.found.2)
    (λ at one. (omega (arith, one.0, c.in-Some.ensures.found.0), one.1)) (omega arith, c.in-Some.ensures.found.2)
    (λ at one. before_here (IsSet c.args.groups.now) c.loop-at.place c.in-Some.at at c.in-Some.ensures.first one) (c.loop-at.invariant a within) (c.mark_roles.ensures a within)

pub returns : goal.returns
returns c = λ a within.
    groups_alike (linked_of c.args.links.now) (nodes_of c.args.roles.now) (λ at. (at < c.loop-at.place) × IsSet c.args.groups.now at) (IsSet c.args.groups.now) c.args.marks.now c.loop-at.marks a (λ at one. one.1)
    (λ at one. (all_before (IsSet c.args.groups.now) c.loop-at.place at c.in_default.ensures.none one, one)) (c.loop-at.invariant a within)
