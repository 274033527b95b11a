-- What a request is answered over a policy of a version (Casbin, enforce), and what the finder refused for it.
use Rattle.std.specs.Prelude.{◌≡◌, ℕ, false, List, [], ◌∷◌, ◌++◌, String}
use Rattle.std.specs.declared.alloc.Global.{Global}
use Rattle.answer_lines.specs.LineText.{Appends, line_text}
use Rattle.answer_lines.specs.Printed.{PrintedAnswer, printed_answer}
use Rattle.answer_lines.specs.declared.answer.Answer.{Answer}
use Rattle.model_conf.specs.ModelText.{ModelParts}
use Rattle.policy_state.specs.States.{State, tables}
use Rattle.regex_gate.specs.Refusals.{Refusals, after_refusals}
use Rattle.script_read.specs.Said.{Reading, Said, asks}
use Rattle.session_meaning.specs.Replies.{IsAnswerTo, is_decided}
use Rattle.version_log.specs.Log.{versions}

-- for an item the finder refused these patterns: none where nothing is decided
pub record Refuses (model : ModelParts) (before now : Refusals) (item : Said) : Type 0 where
  pub refused : List (List ℕ)
  pub logged : now ≡ after_refusals before refused
  pub unasked : is_decided model item ≡ false → refused ≡ []

-- what the line of a request is answered over a policy of its version, where the finder refused so
pub record IsAnsweredBy (model : ModelParts) (state : State) (before now : Refusals) (reading : Reading) (reply : Answer) : Type 0 where
  pub asked : Refuses model before now (asks reading)
  pub answers : IsAnswerTo model state.shapes asked.refused (versions state.log) (tables state) reading reply

-- the line that tells such an answer stands behind a text
pub record TellsAnswer (model : ModelParts) (state : State) (before now : Refusals) (reading : Reading) (number : ℕ) (old new : String Global) : Type 0 where
  pub reply : Answer
  pub answered : IsAnsweredBy model state before now reading reply
  pub appended : Appends old new (line_text (record { number = number; answer = reply }))

-- such an answer is put in behind other replies, as it is printed
pub record AddsReply (model : ModelParts) (state : State) (before now : Refusals) (reading : Reading) (old new : List PrintedAnswer) : Type 0 where
  pub reply : Answer
  pub answered : IsAnsweredBy model state before now reading reply
  pub added : new ≡ old ++ printed_answer reply ∷ []
