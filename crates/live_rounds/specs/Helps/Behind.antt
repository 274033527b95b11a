-- Replies that are put in behind others.
use Rattle.std.specs.Prelude.{◌≡◌, List, [], ◌∷◌, ◌++◌}
use Rattle.answer_lines.specs.Printed.{PrintedAnswer}
use Rattle.live_pair.specs.Seats.{SeatSeen}
use Rattle.live_rounds.specs.Served.{IsServedBy}
use Rattle.model_conf.specs.ModelText.{ModelParts}
use Rattle.perm_base.specs.declared.shapes.Shapes.{Shapes}
use Rattle.policy_table.specs.Tables.{Policy}
use Rattle.regex_gate.specs.Refusals.{Refusals}
use Rattle.script_read.specs.Said.{Reading}

-- a request is answered at a seat, and the reply stands behind others
pub record IsServedBehind (model : ModelParts) (shapes : Shapes) (opening : Policy) (reading : Reading) (before now : Refusals) (old new : SeatSeen) (replies all : List PrintedAnswer) : Type 0 where
  pub reply : PrintedAnswer
  pub served : IsServedBy model shapes opening reading before now old new reply
  pub added : all ≡ replies ++ reply ∷ []
