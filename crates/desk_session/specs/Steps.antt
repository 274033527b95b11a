-- One item of a script at a desk.
use Rattle.std.specs.Prelude.{◌≡◌, List, [], ◌∷◌, ◌++◌}
use Rattle.answer_lines.specs.declared.answer.Answer.{Answer}
use Rattle.model_conf.specs.ModelText.{ModelParts}
use Rattle.policy_desk.specs.Desks.{Work}
use Rattle.policy_table.specs.Tables.{Policy}
use Rattle.regex_gate.specs.Refusals.{Refusals}
use Rattle.script_read.specs.Said.{Said}
pub use Rattle.script_read.specs.Said.{is_request}
use Rattle.script_read.specs.Said as said
use Rattle.session_meaning.specs.Replies.{IsReply}
use Rattle.desk_session.specs.Desks.{HasEditsOf, StandsBehind}
use Rattle.desk_session.specs.Requests.{Refuses}

-- the item is answered and done: whatever items the desk stood behind, the reply is that of the item behind them, where the finder
-- refused so; and the desk now stands behind the item too
pub record IsStep (model : ModelParts) (before now : Refusals) (item : Said) (old new : Work) (reply : Answer) : Type 0 where
  pub asked : Refuses model before now item
  pub replied : (opening : Policy) (items : List Said) → StandsBehind opening items old → IsReply model old.state.shapes opening asked.refused items item reply
  pub behind : (opening : Policy) (items : List Said) → StandsBehind opening items old → StandsBehind opening (items ++ item ∷ []) new

-- the item is answered and done, whatever the model and the finder, which is not asked
abbrev pub IsPlainStep : Said → Work → Work → Answer → Type 0
IsPlainStep item old new reply = (model : ModelParts) (refusals : Refusals) → IsStep model refusals refusals item old new reply

-- nothing was done: whatever items the desk stood behind, it still has their edits
abbrev pub IsStopped : Work → Work → Type 0
IsStopped old new = (opening : Policy) (items : List Said) → StandsBehind opening items old → HasEditsOf opening items new

-- ---- kinds of items

-- what an item leaves beside a desk: a publish adds to it, and all else leaves it
abbrev pub LeavesBeside : (stays grows : Type 0) → Said → Type 0
LeavesBeside stays grows said.publishes = grows
LeavesBeside stays grows _ = stays
