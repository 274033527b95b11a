-- What one name reaches in a role graph, found once and asked often.
use Rattle.std.specs.Prelude.{ℕ, List, None}
use Rattle.perm_base.specs.declared.shapes.Fit.{Fit}
use Rattle.policy_table.specs.Tables.{Fields}
use Rattle.role_graph.specs.Graph.{Graph, shape_of}
use Rattle.role_meaning.specs.Links.{Reaches}

-- the rows of the graph, how names are compared with users, the hierarchy limit, and the name
pub record Reached : Type 0 where
  pub rows : List Fields
  pub names : Fit
  pub limit : ℕ
  pub name : List ℕ

-- that of a name in a graph
abbrev pub reached_in : Graph → List ℕ → Reached
reached_in graph x = record { rows = graph.rows; names = graph.names; limit = graph.limit; name = x }

-- the name reaches the other within the limit
abbrev pub ReachesName : Reached → List ℕ → Type 0
ReachesName reached y = Reaches (shape_of reached.names) reached.rows None reached.limit reached.name y
