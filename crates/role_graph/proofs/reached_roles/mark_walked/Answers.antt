use Rattle.std.proofs.Common.{◌-◌, List, ℕ, sym, subst, arith}
use Rattle.std.specs.List.{Contains}
use Rattle.role_graph.specs.Helps.Kept.{linked_of}
use Rattle.role_graph.specs.Helps.Roles.{nodes_of}
use Rattle.role_graph.specs.Helps.Walks.{IsEntered}
use Rattle.role_graph.proofs.Reached.{entered_within, groups_alike, reach_walked}
use Rattle.role_graph.proofs.reached_roles.mark_walked.Goals as goal

pub clear-requires : goal.clear-requires
clear-requires c = omega (arith, c.len.ensures.count, c.requires.few)

pub returns-in_default : goal.returns-in_default
returns-in_default c =
    reach_walked (linked_of c.args.links.now) (nodes_of c.args.roles.now) c.args.most c.args.x.now c.clear.new.self c.mark_far.new.marks c.requires.nodes c.requires.few c.requires.some
    (λ a within. c.clear.ensures a (omega (arith, within, c.len.ensures.count))) c.mark_far.ensures

pub mark_listed-requires-clause-within : goal.mark_listed-requires-clause-within
mark_listed-requires-clause-within c = λ at stands.
    entered_within (linked_of c.args.links.now) c.args.x.now (c.args.most - 1) at ((c.in-Some.ensures at).0 (subst (λ (l : List ℕ). Contains l at) c.as_slice.ensures.value stands))

pub returns : goal.returns
returns c =
    reach_walked (linked_of c.args.links.now) (nodes_of c.args.roles.now) c.args.most c.args.x.now c.clear.new.self c.mark_listed.new.marks c.requires.nodes c.requires.few c.requires.some
    (λ a within. c.clear.ensures a (omega (arith, within, c.len.ensures.count)))
    (λ a within. groups_alike (linked_of c.args.links.now) (nodes_of c.args.roles.now) (Contains c.as_slice.result.now) (IsEntered (linked_of c.args.links.now) c.args.x.now (c.args.most - 1)) c.clear.new.self c.mark_listed.new.marks a
    (λ at stands. (c.in-Some.ensures at).0 (subst (λ (l : List ℕ). Contains l at) c.as_slice.ensures.value stands))
    (λ at entered. subst (λ (l : List ℕ). Contains l at) (sym c.as_slice.ensures.value) ((c.in-Some.ensures at).1 entered)) (c.mark_listed.ensures a within))
