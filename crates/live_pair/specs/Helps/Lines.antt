-- What an administrator keeps.
use Rattle.std.specs.Prelude.{◌≡◌, List}
use mathlib.Core.List.{IsPrefix}
use Rattle.live_pair.specs.Story.{edits_in, publishes, unpublished}
use Rattle.live_pair.specs.declared.edits.HistoryEvent.{HistoryEvent}
use Rattle.perm_base.specs.declared.shapes.Shapes.{Shapes}
use Rattle.policy_desk.specs.Desks.{Work}
use Rattle.policy_state.specs.States.{StandsFor}
use Rattle.policy_table.specs.Tables.{Policy}
use Rattle.policy_table.specs.declared.change.Change.{Change}

-- the publishes of the history are the published list, and so are those of the copy that is shown; what is in none yet is a
-- prefix of what is pending at the desk; and the desk's policy has the shapes and stands for the published list
pub record IsAdmin (shapes : Shapes) (opening : Policy) (first : List (List Change)) (line shown : List HistoryEvent) (list : List (List (List Change))) (desk : Work) : Type 0 where
  pub list_is : publishes first line ≡ list
  pub shown_is : publishes first shown ≡ list
  pub begun : IsPrefix (unpublished first line) desk.pending
  pub shapes_are : desk.state.shapes ≡ shapes
  pub stands : StandsFor desk.state opening (edits_in list)
