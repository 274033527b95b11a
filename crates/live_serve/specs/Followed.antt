-- What a follower answers: requests and queries by its policy, packets by what becomes of them; all that would change the policy
-- otherwise is refused.
use Rattle.std.specs.Prelude.{◌≡◌, ◌⊎◌, ℕ, Bool, MatchBool, true, false, List, [], Some, codes}
use Rattle.answer_lines.specs.LineText.{answer_text, numbered}
use Rattle.answer_lines.specs.declared.answer.Answer.{Answer}
use Rattle.answer_lines.specs.declared.answer.Answer.TheVariants as answer
use Rattle.loaded_work.specs.Followed.{IsKnown, taken_text}
use Rattle.log_ship.specs.Followers.{Following}
use Rattle.log_ship.specs.Taken as packets
use Rattle.log_ship.specs.Taken.{Takes}
use Rattle.log_ship.specs.declared.packet.Packet.{Packet}
use Rattle.model_conf.specs.ModelText.{ModelParts}
use Rattle.policy_query.specs.Edits.{IsEdit, edit_refusal}
use Rattle.policy_query.specs.Names.{roles_answer, users_answer}
use Rattle.policy_query.specs.Rules.{has_answer, rows_answer}
use Rattle.policy_query.specs.declared.refused.QueryRefused.{QueryRefused}
use Rattle.policy_state.specs.States.{State, tables}
use Rattle.policy_table.specs.declared.change.Change.{Change}
use Rattle.script_read.specs.Said.{Said}
use Rattle.script_read.specs.Said as said
use Rattle.session_meaning.specs.Replies.{IsAnswerTo, is_decided, query_reply}
use Rattle.version_log.specs.Log.{versions}
use Rattle.live_serve.specs.Lines.{cause_text, refused_text}
use Rattle.live_serve.specs.Sayings.{Saying, item, fault, packet, no_packet, too_long}

-- what only a leader does: calls, publishes, how many edits to keep
abbrev pub is_leaders : Said → Bool
is_leaders (said.edits call) = true
is_leaders said.publishes = true
is_leaders (said.keeps count) = true
is_leaders _ = false

-- the edit of a number as it is kept, or why it is not
abbrev pub IsRecalled : State → ℕ → Answer → Type 0
IsRecalled state number reply = ((edit : List Change) × IsEdit state.log number edit × (reply ≡ answer.Recorded (versions state.log) number edit))
    ⊎ ((refused : QueryRefused) × (edit_refusal state.log number ≡ Some refused) × (reply ≡ answer.Query refused))

-- what any other item is answered by a policy of its version
abbrev pub IsStateReply : ModelParts → State → List (List ℕ) → Said → Answer → Type 0
IsStateReply model state refused (said.asks reading) reply = IsAnswerTo model state.shapes refused (versions state.log) (tables state) reading reply
IsStateReply model state refused said.syncs reply = reply ≡ answer.Synced (versions state.log)
IsStateReply model state refused (said.has table rule) reply = reply ≡ query_reply (answer.Has (versions state.log)) (has_answer state.shapes (tables state) table rule)
IsStateReply model state refused (said.rows table place values) reply = reply ≡ query_reply (answer.Rows (versions state.log) table) (rows_answer state.shapes (tables state) table place values)
IsStateReply model state refused (said.roles relation name domain) reply = reply ≡ query_reply (answer.Roles (versions state.log)) (roles_answer state.shapes (tables state) relation name domain)
IsStateReply model state refused (said.users relation name domain) reply = reply ≡ query_reply (answer.Users (versions state.log)) (users_answer state.shapes (tables state) relation name domain)
IsStateReply model state refused (said.recalls number) reply = IsRecalled state number reply
IsStateReply model state refused _ reply = ⊥

-- the text that answers such an item, with this number, where these patterns were refused for it
pub record IsReplied (model : ModelParts) (state : State) (number : ℕ) (it : Said) (refused : List (List ℕ)) (text : List ℕ) : Type 0 where
  pub reply : Answer
  pub replied : IsStateReply model state refused it reply
  pub unasked : is_decided model it ≡ false → refused ≡ []
  pub text_is : text ≡ numbered number (answer_text reply)

-- the text that answers a packet, behind which the follower is this
pub record IsTaken (before : Following) (number : ℕ) (sent : Packet) (text : List ℕ) (now : Following) : Type 0 where
  pub result : packets.TakeAnswer
  pub takes : Takes before sent result now
  pub known : IsKnown result
  pub shapes_are : now.state.shapes ≡ before.state.shapes
  pub text_is : text ≡ numbered number (taken_text result)

-- the text that answers a saying, and the follower behind it
abbrev pub IsFollowed : ModelParts → Following → ℕ → Saying → List (List ℕ) → List ℕ → Following → Type 0
IsFollowed model before number (item it) refused text now = (now ≡ before) × MatchBool (is_leaders it) ((refused ≡ []) × (text ≡ numbered number (codes "refused: follower"))) (IsReplied model before.state number it refused text)
IsFollowed model before number (packet sent) refused text now = (refused ≡ []) × IsTaken before number sent text now
IsFollowed model before number (fault first) refused text now = (now ≡ before) × (refused ≡ []) × (text ≡ refused_text number (cause_text first))
IsFollowed model before number no_packet refused text now = (now ≡ before) × (refused ≡ []) × (text ≡ numbered number (codes "refused: packet"))
IsFollowed model before number too_long refused text now = (now ≡ before) × (refused ≡ []) × (text ≡ refused_text number (codes "too long"))
