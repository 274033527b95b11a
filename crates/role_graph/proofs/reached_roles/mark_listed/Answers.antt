use Rattle.std.proofs.Common.{◌+◌, List, ℕ, sym, subst, take}
use Rattle.std.specs.List.{Contains}
use Rattle.std.proofs.lemmas.List.{take_all}
use Rattle.std.proofs.lemmas.List.Elements.{Contains-get_or}
use Rattle.role_graph.specs.Helps.Kept.{linked_of}
use Rattle.role_graph.specs.Helps.Roles.{nodes_of}
use Rattle.role_graph.proofs.Nearest.{roles_of_nodes}
use Rattle.role_graph.proofs.Reached.{group_set, groups_alike, listed_cases, listed_here, listed_more, no_group_set, none_listed}
use Rattle.role_graph.proofs.reached_roles.mark_listed.Goals as goal

pub loop-index-init : goal.loop-index-init
loop-index-init c = λ a within. no_group_set (linked_of c.args.links.now) (nodes_of c.args.roles.now) (Contains (take 0 c.args.listed.now)) c.args.marks.now a (none_listed c.args.listed.now)

pub roles_at-requires : goal.roles_at-requires
roles_at-requires c = c.requires.within c.group_at-group.result (subst (Contains c.args.listed.now) (sym c.group_at-group.ensures) (Contains-get_or c.args.listed.now c.loop-index.index 0 c.loop-index-test.true))

pub mark_roles-requires-clause-roles : goal.mark_roles-requires-clause-roles
mark_roles-requires-clause-roles c = λ role stands.
    roles_of_nodes (linked_of c.args.links.now) (nodes_of c.args.roles.now) c.group_at-group.result c.roles_at.result.now role c.requires.nodes c.roles_at.ensures
    (c.requires.within c.group_at-group.result (subst (Contains c.args.listed.now) (sym c.group_at-group.ensures) (Contains-get_or c.args.listed.now c.loop-index.index 0 c.loop-index-test.true))) stands

pub loop-index-preserved : goal.loop-index-preserved
loop-index-preserved c = λ a within.
    group_set (linked_of c.args.links.now) (nodes_of c.args.roles.now) (Contains (take c.loop-index.index c.args.listed.now)) (Contains (take (c.loop-index.index + 1) c.args.listed.now)) c.group_at-group.result c.roles_at.result.now
    c.args.marks.now c.loop-index.marks c.mark_roles.new.marks a c.roles_at.ensures
    (c.requires.within c.group_at-group.result (subst (Contains c.args.listed.now) (sym c.group_at-group.ensures) (Contains-get_or c.args.listed.now c.loop-index.index 0 c.loop-index-test.true)))
    (listed_more c.args.listed.now c.loop-index.index c.loop-index-test.true) (listed_here c.args.listed.now c.loop-index.index c.group_at-group.result c.loop-index-test.true c.group_at-group.ensures)
    (listed_cases c.args.listed.now c.loop-index.index c.group_at-group.result c.loop-index-test.true c.group_at-group.ensures) (c.loop-index.invariant a within) (c.mark_roles.ensures a within)

pub returns : goal.returns
returns c = λ a within.
    groups_alike (linked_of c.args.links.now) (nodes_of c.args.roles.now) (Contains (take c.loop-index.index c.args.listed.now)) (Contains c.args.listed.now) c.args.marks.now c.loop-index.marks a
    (λ at stands. subst (λ (l : List ℕ). Contains l at) (take_all c.loop-index.index c.args.listed.now c.loop-index-test.false) stands)
    (λ at stands. subst (λ (l : List ℕ). Contains l at) (sym (take_all c.loop-index.index c.args.listed.now c.loop-index-test.false)) stands) (c.loop-index.invariant a within)
