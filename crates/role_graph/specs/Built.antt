-- What contracts see of a graph that is made of rows which come one after the other.
use Rattle.std.specs.Prelude.{◌≡◌, ◌≤◌, ℕ, List, length}
use Rattle.perm_base.specs.declared.shapes.Fit.{Fit}
use Rattle.policy_table.specs.Tables.{Fields}
use Rattle.role_graph.specs.Graph.{most_rows}
use Rattle.role_graph.specs.Groups.{rows_with}
use Rattle.role_graph.specs.Helps.Roles.{Counted, count_of}

-- the rows so far, how names are compared with users, the hierarchy limit, and what is counted of the rows: each role, and all
pub record Built : Type 0 where
  pub rows : List Fields
  pub names : Fit
  pub limit : ℕ
  pub roles : Counted
  pub count : ℕ

-- each row is counted, and they are not too many
pub record IsCounted (built : Built) : Type 0 where
  pub counted : (role : List ℕ) → count_of built.roles role ≡ rows_with role built.rows
  pub number : built.count ≡ length built.rows
  pub few : length built.rows ≤ most_rows
