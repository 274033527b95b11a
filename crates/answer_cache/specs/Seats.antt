-- The policies that one seat enters, one after the other.
use Rattle.std.specs.Prelude.{◌≡◌, List}
use mathlib.Core.List.{IsPrefix}
use Rattle.policy_state.specs.States.{StandsFor, State}
use Rattle.policy_table.specs.Tables.{Policy}
use Rattle.policy_table.specs.declared.change.Change.{Change}

-- each stands for a list of edits from the same opening tables, and the edits of the earlier begin those of the later; the shapes are the same
pub record AreOfOneSeat (opening : Policy) (older newer : List (List Change)) (before now : State) : Type 0 where
  pub stood : StandsFor before opening older
  pub stands : StandsFor now opening newer
  pub begun : IsPrefix older newer
  pub shapes : before.shapes ≡ now.shapes
