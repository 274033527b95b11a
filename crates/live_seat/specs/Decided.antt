-- What a request is answered by an entry of a seat, and what the seat is afterwards (Casbin, enforce).
use Rattle.std.specs.Prelude.{◌≡◌, List, [], ◌∷◌, ◌++◌, Option}
use Rattle.answer_lines.specs.Printed.{PrintedAnswer, printed_answer}
use Rattle.answer_lines.specs.declared.answer.Answer.TheVariants.{Decided}
use Rattle.decision.specs.Decisions.{IsJudgedWith, RefusedIn}
use Rattle.live_pair.specs.Seats.{IsEntered, IsShut, SeatSeen}
use Rattle.live_pair.specs.Story.{edits_in}
use Rattle.live_seat.specs.declared.answered.Answered.{Answered}
use Rattle.live_seat.specs.declared.answered.SeatStop.{SeatStop}
use Rattle.live_seat.specs.declared.answered.SeatStop.TheVariants.{NoMemory, Shut}
use Rattle.matcher_meaning.specs.Verdicts.{IsJudged}
use Rattle.model_conf.specs.ModelText.{ModelParts}
use Rattle.perm_base.specs.declared.shapes.Shapes.{Shapes}
use Rattle.perm_value.specs.Datum.{Datum}
use Rattle.policy_table.specs.Changes.{replay}
use Rattle.policy_table.specs.Tables.{Fields, Policy}
use Rattle.policy_table.specs.declared.change.Change.{Change}
use Rattle.regex_gate.specs.Refusals.{IsRefused, Refusals}
use Rattle.session_meaning.specs.Replies.{rule_of}

-- the tables behind the edits of publishes
abbrev pub tables_behind : Policy → List (List (List Change)) → Policy
tables_behind opening front = replay (edits_in front) opening

-- the seat made one entry, and the verdict is judged over the tables behind its front, whose version is told. What the finder
-- refused is what `decide` says
pub record IsDecidedAt (model : ModelParts) (shapes : Shapes) (opening : Policy) (values : List Datum) (before now : Refusals) (old new : SeatSeen) (answered : Answered) : Type 0 where
  pub entered : IsEntered old new
  pub version_is : answered.version ≡ new.last
  pub judged : IsJudged model shapes (tables_behind opening new.front) values (IsRefused before now) answered.verdict
  pub refused : IsJudgedWith model shapes (tables_behind opening new.front) values (RefusedIn model.effect before now) answered.verdict

-- the same, with the rule of those tables that the verdict names
pub record IsExplainedAt (model : ModelParts) (shapes : Shapes) (opening : Policy) (values : List Datum) (before now : Refusals) (old new : SeatSeen) (told : Answered × Option Fields) : Type 0 where
  pub decided : IsDecidedAt model shapes opening values before now old new told.0
  pub rule_is : told.1 ≡ rule_of (tables_behind opening new.front) told.0.verdict

-- the same as it is printed behind these replies
pub record IsPrintedAt (model : ModelParts) (shapes : Shapes) (opening : Policy) (values : List Datum) (before now : Refusals) (old new : SeatSeen) (replies all : List PrintedAnswer) : Type 0 where
  pub told : Answered × Option Fields
  pub explained : IsExplainedAt model shapes opening values before now old new told
  pub added : all ≡ replies ++ printed_answer (Decided told.0.version told.0.verdict told.1) ∷ []

-- nothing is answered: the entry was refused and counted, and the finder was not asked; or memory ran out behind one entry
abbrev pub IsStoppedAt : (before now : Refusals) (old new : SeatSeen) → SeatStop → Type 0
IsStoppedAt before now old new Shut = IsShut old new × (now ≡ before)
IsStoppedAt before now old new NoMemory = IsEntered old new
