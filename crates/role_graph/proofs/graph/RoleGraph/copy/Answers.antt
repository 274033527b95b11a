use Rattle.std.proofs.Common.{ap, ◌∙◌}
use Rattle.role_graph.specs.Graph.{Graph}
use Rattle.role_graph.proofs.CopyLemmas.{rows_copied, sound_copied}
use Rattle.role_graph.proofs.graph.RoleGraph.copy.Goals as goal

pub invariant_of-result : goal.invariant_of-result
invariant_of-result c =
    sound_copied c.self.inside.links c.fit.new.self c.self.inside.limit c.self.inside.roles c.fit-2.new.self c.self.inside.count c.self.inside.square.cells c.in_ok-square.square.cells (c.fit.ensures.plain ∙ c.in_ok-links.ensures.plain) (c.fit.ensures.patterned ∙ c.in_ok-links.ensures.patterned)
    (c.fit.ensures.names ∙ c.in_ok-links.ensures.names) (c.fit-2.ensures ∙ c.in_ok-roles.ensures) c.in_ok-square.ensures c.self.invariant

pub returns-clause-rows : goal.returns-clause-rows
returns-clause-rows c = rows_copied c.self.inside.links c.fit.new.self (c.fit.ensures.plain ∙ c.in_ok-links.ensures.plain) (c.fit.ensures.patterned ∙ c.in_ok-links.ensures.patterned) ∙ ap (λ (g : Graph). g.rows) c.self.view_is
