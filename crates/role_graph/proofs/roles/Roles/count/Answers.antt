use Rattle.std.proofs.Common.{Some, None, ap}
use Rattle.role_graph.specs.Helps.Roles.{Counted}
use Rattle.role_graph.proofs.Keyed.{seen_at}
use Rattle.role_graph.proofs.Tallies.{number_found}
use Rattle.role_graph.proofs.roles.Roles.count.Goals as goal

pub returns-in-Some : goal.returns-in-Some
returns-in-Some c =
    number_found c.args.self.now.entries c.args.role.now (Some c.in-Some.count.now)
    (seen_at c.args.role.now c.self.inside.counts.entries c.args.self.now.entries (Some c.in-Some.count.now) (ap (λ (d : Counted). d.entries) c.self.view_is) c.in-Some.ensures.value)

pub returns-in-None : goal.returns-in-None
returns-in-None c =
    number_found c.args.self.now.entries c.args.role.now None
    (seen_at c.args.role.now c.self.inside.counts.entries c.args.self.now.entries None (ap (λ (d : Counted). d.entries) c.self.view_is) c.in-None.ensures.value)
