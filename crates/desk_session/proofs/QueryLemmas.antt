-- Queries at a desk.
use Rattle.std.proofs.Common.{◌≡◌, ◌≢◌, ℕ, Bool, true, List, [], Option, Some, Err, refl, sym, ap, subst, ◌∙◌}
use Rattle.std.specs.Prelude.{Result}
use Rattle.answer_lines.specs.declared.answer.Answer.{Answer}
use Rattle.answer_lines.specs.declared.answer.Answer.TheVariants as answer
use Rattle.model_conf.specs.ModelText.{ModelParts}
use Rattle.perm_base.specs.declared.shapes.Shapes.{Shapes}
use Rattle.perm_base.specs.declared.shapes.TableId.{TableId}
use Rattle.policy_desk.specs.Desks.{Work}
use Rattle.policy_query.specs.Answers.{IsAnswer}
use Rattle.policy_query.specs.Edits.{IsEdit, edit_refusal}
use Rattle.policy_query.specs.Names.{roles_answer, users_answer}
use Rattle.policy_query.specs.Rules.{has_answer, rows_answer}
use Rattle.policy_query.specs.declared.refused.QueryRefused.{QueryRefused}
use Rattle.policy_query.specs.declared.refused.QueryRefused.TheVariants as query
use Rattle.policy_state.specs.States.{State, tables}
use Rattle.policy_table.specs.Tables.{Fields, Policy}
use Rattle.policy_table.specs.declared.change.Change.{Change}
use Rattle.script_read.specs.Said.{Said, has, recalls, roles, rows, users}
use Rattle.session_meaning.proofs.CallerLemmas.{desk_not_recalled, desk_recalled, desk_version, only_asks, out_at_desk}
use Rattle.session_meaning.specs.Replies.{IsReply, query_reply}
use Rattle.session_meaning.specs.Versions.{out, published}
use Rattle.version_log.specs.Log.{versions}
use Rattle.desk_session.specs.Steps.{IsPlainStep}
use Rattle.desk_session.proofs.StepLemmas.{quiet_step}

-- a refusal that is no want of memory is the answer
pub refused_is : {T : Type 0} (answered : Result T QueryRefused) (refused : QueryRefused) → IsAnswer answered (Err refused) → refused ≢ query.NoMemory → answered ≡ Err refused
refused_is answered query.NoMemory is known = absurd (known refl)
refused_is answered (query.NoTable table) is known = is
refused_is answered (query.Columns want got) is known = is
refused_is answered query.FilterPlace is known = is
refused_is answered (query.NoEdit version) is known = is
refused_is answered (query.Dropped start) is known = is

-- ---- queries on the tables

-- the reply to a query on the tables that are out
abbrev IsQueryReply : {T : Type 0} → Said → Shapes → (ℕ → T → Answer) → (Policy → Result T QueryRefused) → Type 0
IsQueryReply item shapes told answer_in = (model : ModelParts) (opening : Policy) (items : List Said) (reply : Answer)
    → reply ≡ query_reply (told (out shapes opening items)) (answer_in (published shapes opening items)) → IsReply model shapes opening [] items item reply

query_step : {T : Type 0} (item : Said) (desk : Work) (told : ℕ → T → Answer) (answer_in : Policy → Result T QueryRefused) → only_asks item ≡ true → IsQueryReply item desk.state.shapes told answer_in
    → (version : ℕ) → version ≡ versions desk.state.log → (answered : Result T QueryRefused) → answer_in (tables desk.state) ≡ answered → (reply : Answer) → reply ≡ query_reply (told version) answered → IsPlainStep item desk desk reply
query_step item desk told answer_in asks replies version version-is answered answered-is reply is model refusals =
    quiet_step model refusals item desk reply asks
    (λ opening items stands. replies model opening items reply
    (out_at_desk desk.state.shapes opening items desk.state.log (tables desk.state) desk.pending desk.kept stands.edits (λ (n : ℕ) (policy : Policy). reply ≡ query_reply (told n) (answer_in policy)) whole))
  where
    whole : reply ≡ query_reply (told (versions desk.state.log)) (answer_in (tables desk.state))
    whole = is ∙ (λ j. query_reply (told (version-is j)) (sym answered-is j))

module _ (desk : Work) (state : State) (state-is : state ≡ desk.state) (version : ℕ) (version-is : version ≡ versions state.log) where
  same_version : version ≡ versions desk.state.log
  same_version = version-is ∙ ap (λ (s : State). versions s.log) state-is

  pub has_step : (table : TableId) (rule : Fields) (answered : Result Bool QueryRefused) → has_answer state.shapes (tables state) table rule ≡ answered
      → (reply : Answer) → reply ≡ query_reply (answer.Has version) answered → IsPlainStep (has table rule) desk desk reply
  has_step table rule answered answered-is =
      query_step (has table rule) desk answer.Has (λ (policy : Policy). has_answer desk.state.shapes policy table rule) refl (λ model opening items reply is. is) version same_version answered
      (subst (λ (s : State). has_answer s.shapes (tables s) table rule ≡ answered) state-is answered-is)

  pub rows_step : (table : TableId) (at : ℕ) (values : Fields) (answered : Result (List Fields) QueryRefused) → rows_answer state.shapes (tables state) table at values ≡ answered
      → (reply : Answer) → reply ≡ query_reply (answer.Rows version table) answered → IsPlainStep (rows table at values) desk desk reply
  rows_step table at values answered answered-is =
      query_step (rows table at values) desk (λ (n : ℕ). answer.Rows n table) (λ (policy : Policy). rows_answer desk.state.shapes policy table at values) refl (λ model opening items reply is. is) version same_version answered
      (subst (λ (s : State). rows_answer s.shapes (tables s) table at values ≡ answered) state-is answered-is)

  -- queries for names, by texts that are seen as the name and the domain
  module _ (relation : ℕ) (name seen_name : List ℕ) (domain seen_domain : Option (List ℕ)) (name-is : seen_name ≡ name) (domain-is : seen_domain ≡ domain) (answered : Result (List (List ℕ)) QueryRefused) where
    pub roles_step : roles_answer state.shapes (tables state) relation seen_name seen_domain ≡ answered
        → (reply : Answer) → reply ≡ query_reply (answer.Roles version) answered → IsPlainStep (roles relation name domain) desk desk reply
    roles_step answered-is =
        query_step (roles relation name domain) desk answer.Roles (λ (policy : Policy). roles_answer desk.state.shapes policy relation name domain) refl (λ model opening items reply is. is) version same_version answered
        (sym (λ j. roles_answer (state-is j).shapes (tables (state-is j)) relation (name-is j) (domain-is j)) ∙ answered-is)

    pub users_step : users_answer state.shapes (tables state) relation seen_name seen_domain ≡ answered
        → (reply : Answer) → reply ≡ query_reply (answer.Users version) answered → IsPlainStep (users relation name domain) desk desk reply
    users_step answered-is =
        query_step (users relation name domain) desk answer.Users (λ (policy : Policy). users_answer desk.state.shapes policy relation name domain) refl (λ model opening items reply is. is) version same_version answered
        (sym (λ j. users_answer (state-is j).shapes (tables (state-is j)) relation (name-is j) (domain-is j)) ∙ answered-is)

  -- ---- queries on the log

  -- the edit of a number
  pub recorded_step : (number : ℕ) (edit copy : List Change) → IsEdit state.log number edit → copy ≡ edit → IsPlainStep (recalls number) desk desk (answer.Recorded version number copy)
  recorded_step number edit copy is same model refusals =
      let here : IsEdit desk.state.log number copy = subst (λ (s : State). IsEdit s.log number copy) state-is (subst (IsEdit state.log number) (sym same) is) in
      quiet_step model refusals (recalls number) desk (answer.Recorded version number copy) refl
      (λ opening items stands. ap (λ (n : ℕ). answer.Recorded n number copy) (same_version ∙ desk_version desk.state.shapes opening items desk.state.log (tables desk.state) desk.pending desk.kept stands.edits)
      ∙ sym (ap (query_reply (answer.Recorded (out desk.state.shapes opening items) number)) (desk_recalled desk.state.shapes opening items desk.state.log (tables desk.state) desk.pending desk.kept stands.edits number copy here)))

  -- why there is none
  pub not_recorded_step : (number : ℕ) (refused : QueryRefused) → edit_refusal state.log number ≡ Some refused → (reply : Answer) → reply ≡ answer.Query refused → IsPlainStep (recalls number) desk desk reply
  not_recorded_step number refused is reply reply-is model refusals =
      let here : edit_refusal desk.state.log number ≡ Some refused = subst (λ (s : State). edit_refusal s.log number ≡ Some refused) state-is is in
      quiet_step model refusals (recalls number) desk reply refl
      (λ opening items stands. reply-is ∙ sym (ap (query_reply (answer.Recorded (out desk.state.shapes opening items) number)) (desk_not_recalled desk.state.shapes opening items desk.state.log (tables desk.state) desk.pending desk.kept stands.edits number refused here)))
