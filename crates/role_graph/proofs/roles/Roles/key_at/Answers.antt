use Rattle.std.proofs.Common.{[], get_or, ap, sym, ◌∙◌}
use Rattle.role_graph.specs.Helps.Roles.{Counted, nodes_of}
use Rattle.role_graph.proofs.Keyed.{text_there}
use Rattle.role_graph.proofs.roles.Roles.key_at.Goals as goal

pub returns : goal.returns
returns c = text_there c.self.inside.counts.entries c.args.node c.in-Some.name.now c.in-Some.field-0-1.now (sym c.in-Some.ensures.entry) ∙ ap (λ (d : Counted). get_or (nodes_of d) c.args.node []) c.self.view_is
