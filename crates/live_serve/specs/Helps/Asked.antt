-- What is asked of a policy of its version.
use Rattle.std.specs.Prelude.{◌≡◌, true, false, List, [], Option, Some, None}
use Rattle.answer_lines.specs.Told.{is_printable}
use Rattle.answer_lines.specs.declared.answer.Answer.{Answer}
use Rattle.model_conf.specs.ModelText.{ModelParts}
use Rattle.policy_state.specs.States.{State}
use Rattle.regex_gate.specs.Refusals.{Refusals}
use Rattle.desk_session.specs.Requests.{Refuses}
use Rattle.script_read.specs.Said.{Said}
use Rattle.live_serve.specs.Followed.{IsStateReply}

-- the reply to an item, and what the finder refused for it
pub record IsAsked (model : ModelParts) (state : State) (before now : Refusals) (it : Said) (reply : Answer) : Type 0 where
  pub asked : Refuses model before now it
  pub replied : IsStateReply model state asked.refused it reply
  pub printable : is_printable reply ≡ true

-- the reply to a query, for which no finder is asked
pub record IsReply (state : State) (it : Said) (reply : Answer) : Type 0 where
  pub replied : (model : ModelParts) → IsStateReply model state [] it reply
  pub printable : is_printable reply ≡ true

-- there is one
abbrev pub IsQueried : State → Said → Option Answer → Type 0
IsQueried state it None = ⊥
IsQueried state it (Some reply) = IsReply state it reply
