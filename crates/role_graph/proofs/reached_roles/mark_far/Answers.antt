use Rattle.role_graph.specs.Helps.Kept.{linked_of}
use Rattle.role_graph.specs.Helps.Marks.{IsSet}
use Rattle.role_graph.specs.Helps.Roles.{nodes_of}
use Rattle.role_graph.specs.Helps.Walks.{IsEntered}
use Rattle.role_graph.proofs.Reached.{entered_within, groups_alike}
use Rattle.role_graph.proofs.reached_roles.mark_far.Goals as goal

pub mark_groups-requires-clause-within : goal.mark_groups-requires-clause-within
mark_groups-requires-clause-within c = λ at one. entered_within (linked_of c.args.links.now) c.args.x.now c.args.most at ((c.entered-groups.ensures at).0 one)

pub returns : goal.returns
returns c = λ a within.
    groups_alike (linked_of c.args.links.now) (nodes_of c.args.roles.now) (IsSet c.entered-groups.result) (IsEntered (linked_of c.args.links.now) c.args.x.now c.args.most) c.args.marks.now c.mark_groups.new.marks a
    (λ at one. (c.entered-groups.ensures at).0 one) (λ at entered. (c.entered-groups.ensures at).1 entered) (c.mark_groups.ensures a within)
