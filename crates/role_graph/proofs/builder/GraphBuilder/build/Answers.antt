use Rattle.std.proofs.Common.{◌≤◌, ◌∙◌, ℕ, List, ap, length, subst, sym}
use Rattle.policy_table.specs.Tables.{Fields}
use Rattle.role_graph.specs.Built.{Built, IsCounted}
use Rattle.role_graph.specs.Groups.{rows_with, times}
use Rattle.role_graph.specs.Helps.Roles.{number_in}
use Rattle.role_graph.proofs.CopyLemmas.{rows_copied}
use Rattle.role_graph.proofs.builder.GraphBuilder.build.Goals as goal

pub graph_of-requires-clause-few : goal.graph_of-requires-clause-few
graph_of-requires-clause-few c =
    subst (λ (rows : List Fields). length rows ≤ 200000) (sym (rows_copied c.self.inside.links c.fit.new.self c.fit.ensures.plain c.fit.ensures.patterned)) (subst IsCounted (sym c.self.view_is) c.requires).few

pub graph_of-requires-clause-counted : goal.graph_of-requires-clause-counted
graph_of-requires-clause-counted c = λ role.
    ap (λ (entries : List (List ℕ × ℕ)). number_in entries role) c.fit-2.ensures ∙ (subst IsCounted (sym c.self.view_is) c.requires).counted role
    ∙ ap (rows_with role) (sym (rows_copied c.self.inside.links c.fit.new.self c.fit.ensures.plain c.fit.ensures.patterned))

pub graph_of-requires-clause-number : goal.graph_of-requires-clause-number
graph_of-requires-clause-number c =
    (subst IsCounted (sym c.self.view_is) c.requires).number ∙ ap (λ (rows : List Fields). length rows) (sym (rows_copied c.self.inside.links c.fit.new.self c.fit.ensures.plain c.fit.ensures.patterned))

pub returns-clause-rows : goal.returns-clause-rows
returns-clause-rows c = λ one.
    ap (times one) (c.in_ok-graph.ensures.rows ∙ rows_copied c.self.inside.links c.fit.new.self c.fit.ensures.plain c.fit.ensures.patterned) ∙ ap (λ (built : Built). times one built.rows) c.self.view_is
