use Rattle.std.proofs.Common.{◌∙◌, ap, sym}
use Rattle.role_graph.specs.Helps.Kept.{Kept, roles_under}
use Rattle.role_graph.proofs.Entries.{roles_found, roles_nowhere}
use Rattle.role_graph.proofs.groups.Groups.roles_of.Goals as goal

pub returns-in-Some : goal.returns-in-Some
returns-in-Some c =
    c.as_slice.ensures ∙ roles_found c.args.user.now c.self.inside.entries.entries c.in-Some.roles.now (sym c.in-Some.ensures.value) ∙ ap (λ (k : Kept). roles_under c.args.user.now k.groups) c.self.view_is

pub returns-in-None : goal.returns-in-None
returns-in-None c = roles_nowhere c.args.user.now c.self.inside.entries.entries (sym c.in-None.ensures.value) ∙ ap (λ (k : Kept). roles_under c.args.user.now k.groups) c.self.view_is
