use Rattle.std.proofs.Common.{ap}
use Rattle.role_graph.specs.Helps.Kept.{Kept}
use Rattle.role_graph.proofs.Entries.{found_at, found_nowhere}
use Rattle.role_graph.proofs.groups.Groups.place_of.Goals as goal

pub returns-clause-found : goal.returns-clause-found
returns-clause-found c =
    found_at c.args.user.now c.self.inside.entries.entries c.args.self.now.groups c.get_index_of.result (ap (λ (k : Kept). k.groups) c.self.view_is) c.self.invariant c.get_index_of.ensures.index

pub returns-clause-none : goal.returns-clause-none
returns-clause-none c =
    found_nowhere c.args.user.now c.self.inside.entries.entries c.args.self.now.groups c.get_index_of.result (ap (λ (k : Kept). k.groups) c.self.view_is) c.get_index_of.ensures.index
