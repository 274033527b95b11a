-- Requests and other items that leave a desk as it is.
use Rattle.std.proofs.Common.{◌≡◌, ℕ, true, List, [], ◌∷◌, ◌++◌, ap, subst, ◌∙◌, refl}
use Rattle.answer_lines.specs.declared.answer.Answer.{Answer}
use Rattle.answer_lines.specs.declared.answer.Answer.TheVariants as answer
use Rattle.model_conf.specs.ModelText.{ModelParts}
use Rattle.policy_desk.specs.Desks.{Work}
use Rattle.policy_state.specs.States.{State, tables}
use Rattle.policy_table.specs.Tables.{Policy}
use Rattle.regex_gate.specs.Refusals.{Refusals}
use Rattle.script_read.specs.Said.{Reading, Said, asks, syncs}
use Rattle.session_meaning.proofs.CallerLemmas.{behind_other, desk_version, only_asks, out_at_desk}
use Rattle.session_meaning.specs.Replies.{IsAnswerTo, IsReply}
use Rattle.version_log.specs.Log.{versions}
use Rattle.desk_session.specs.Desks.{HasEditsOf, StandsBehind}
use Rattle.desk_session.specs.Steps.{IsPlainStep, IsStep}
use Rattle.desk_session.specs.Requests.{IsAnsweredBy, Refuses}
use Rattle.desk_session.proofs.LogLemmas.{none_asked}

-- what a request is answered over the published policy is its reply behind the items that the desk has the edits of
request_reply : (model : ModelParts) (refused : List (List ℕ)) (opening : Policy) (items : List Said) (desk : Work) → HasEditsOf opening items desk → (reading : Reading) (reply : Answer)
    → IsAnswerTo model desk.state.shapes refused (versions desk.state.log) (tables desk.state) reading reply → IsReply model desk.state.shapes opening refused items (asks reading) reply
request_reply model refused opening items desk has reading reply is =
    out_at_desk desk.state.shapes opening items desk.state.log (tables desk.state) desk.pending desk.kept has (λ (version : ℕ) (policy : Policy). IsAnswerTo model desk.state.shapes refused version policy reading reply) is

-- an item that asks leaves the desk behind it
asked_behind : (opening : Policy) (items : List Said) (item : Said) (desk : Work) → only_asks item ≡ true → StandsBehind opening items desk → StandsBehind opening (items ++ item ∷ []) desk
asked_behind opening items item desk calm stands = record {
  edits = behind_other desk.state.shapes opening items desk.state.log (tables desk.state) desk.pending desk.kept stands.edits item calm;
  floor = stands.floor;
}

module _ (model : ModelParts) where
  -- an item that asks, with its reply
  asked_step : (before now : Refusals) (item : Said) (desk : Work) (reply : Answer) → only_asks item ≡ true → (asked : Refuses model before now item)
      → ((opening : Policy) (items : List Said) → StandsBehind opening items desk → IsReply model desk.state.shapes opening asked.refused items item reply) → IsStep model before now item desk desk reply
  asked_step before now item desk reply calm asked replies = record {
    asked = asked;
    replied = replies;
    behind = λ opening items stands. asked_behind opening items item desk calm stands;
  }

  -- one that asks no finder
  pub quiet_step : (refusals : Refusals) (item : Said) (desk : Work) (reply : Answer) → only_asks item ≡ true
      → ((opening : Policy) (items : List Said) → StandsBehind opening items desk → IsReply model desk.state.shapes opening [] items item reply) → IsStep model refusals refusals item desk desk reply
  quiet_step refusals item desk reply calm replies = asked_step refusals refusals item desk reply calm (none_asked model refusals item) replies

  -- a request that is answered over the published policy
  pub request_step : (before now : Refusals) (desk : Work) (state : State) → state ≡ desk.state → (reading : Reading) (reply : Answer) → IsAnsweredBy model state before now reading reply → IsStep model before now (asks reading) desk desk reply
  request_step before now desk state state-is reading reply is =
      let here : IsAnsweredBy model desk.state before now reading reply = subst (λ (s : State). IsAnsweredBy model s before now reading reply) state-is is in
      asked_step before now (asks reading) desk reply refl here.asked (λ opening items stands. request_reply model here.asked.refused opening items desk stands.edits reading reply here.answers)

-- the version that is out
pub sync_step : (desk : Work) (state : State) → state ≡ desk.state → (version : ℕ) → version ≡ versions state.log → IsPlainStep syncs desk desk (answer.Synced version)
sync_step desk state state-is version is model refusals = quiet_step model refusals syncs desk (answer.Synced version) refl
    (λ opening items stands. ap answer.Synced (is ∙ ap (λ (s : State). versions s.log) state-is ∙ desk_version desk.state.shapes opening items desk.state.log (tables desk.state) desk.pending desk.kept stands.edits))
