-- What queries over a policy of its version are answered, and that it can be printed.
use Rattle.std.proofs.Common.{◌≡◌, ℕ, inl, inr, Bool, true, false, ◌||◌, ◌==◌, List, [], Option, Some, None, Ok, Err, refl, sym, ap, subst, ◌∙◌}
use Rattle.std.specs.Prelude.{MatchOption, OnErr, Result, if◌then◌else◌, nat_le, nat_lt}
use Rattle.answer_lines.specs.Told.{has_name, is_printable}
use Rattle.answer_lines.specs.declared.answer.Answer.{Answer}
use Rattle.answer_lines.specs.declared.answer.Answer.TheVariants as answer
use Rattle.model_conf.specs.ModelText.{ModelParts}
use Rattle.perm_base.specs.declared.shapes.TableId.{TableId}
use Rattle.perm_base.specs.declared.shapes.TableId.TheVariants.{G}
use Rattle.policy_query.specs.Answers.{answer_unless}
use Rattle.policy_query.specs.Edits.{IsEdit, edit_refusal}
use Rattle.policy_query.specs.Names.{names_refusal, roles_answer, users_answer}
use Rattle.policy_query.specs.Rules.{filter_refusal, has_answer, rows_answer, rule_refusal}
use Rattle.policy_query.specs.declared.refused.QueryRefused.{QueryRefused}
use Rattle.policy_query.specs.declared.refused.QueryRefused.TheVariants as query
use Rattle.policy_state.specs.States.{State, tables}
use Rattle.policy_table.specs.Tables.{Fields}
use Rattle.policy_table.specs.declared.change.Change.{Change}
use Rattle.script_read.specs.Said.{Reading, Said, asks, has, recalls, roles, rows, syncs, users}
use Rattle.session_meaning.specs.Replies.{query_reply}
use Rattle.session_meaning.proofs.CallerLemmas.{QueryTold, names_told, query_told, rows_told, rule_told}
use Rattle.version_log.specs.Log.{Logged, versions}
use Rattle.regex_gate.specs.Refusals.{Refusals}
use Rattle.desk_session.specs.Requests.{IsAnsweredBy, Refuses}
use Rattle.live_serve.specs.Followed.{IsStateReply, is_leaders}
use Rattle.live_serve.specs.Helps.Asked.{IsAsked, IsQueried, IsReply}

-- ---- queries on the tables

-- what is told of an answer that a version has
told_reply : {T : Type 0} (state : State) (it : Said) (told : ℕ → T → Answer) (refused : Option QueryRefused) (value : T) → ((model : ModelParts) (reply : Answer) → reply ≡ query_reply (told (versions state.log)) (answer_unless refused value) → IsStateReply model state [] it reply)
    → QueryTold refused → ((version : ℕ) (x : T) → is_printable (told version x) ≡ true) → (version : ℕ) → version ≡ versions state.log → (answered : Result T QueryRefused) → answer_unless refused value ≡ answered → (reply : Answer) → reply ≡ query_reply (told version) answered → IsReply state it reply
told_reply state it told refused value replies calm printable version version-is answered answered-is reply is =
    let whole : reply ≡ query_reply (told (versions state.log)) (answer_unless refused value) = is ∙ (λ j. query_reply (told (version-is j)) (sym answered-is j)) in
    record { replied = λ model. replies model reply whole; printable = ap is_printable whole ∙ query_told (told (versions state.log)) refused value calm (printable (versions state.log) value) }

module _ (state : State) (version : ℕ) (version-is : version ≡ versions state.log) where
  pub has_reply : (table : TableId) (rule : Fields) → has_name table ≡ true → (answered : Result Bool QueryRefused) → has_answer state.shapes (tables state) table rule ≡ answered → (reply : Answer) → reply ≡ query_reply (answer.Has version) answered → IsReply state (has table rule) reply
  has_reply table rule named answered answered-is reply is =
      told_reply state (has table rule) answer.Has (rule_refusal state.shapes table rule) _ (λ model reply is. is) (rule_told state.shapes table rule named) (λ version x. refl) version version-is answered answered-is reply is

  pub rows_reply : (table : TableId) (at : ℕ) (values : Fields) → has_name table ≡ true → (answered : Result (List Fields) QueryRefused) → rows_answer state.shapes (tables state) table at values ≡ answered → (reply : Answer) → reply ≡ query_reply (answer.Rows version table) answered → IsReply state (rows table at values) reply
  rows_reply table at values named answered answered-is reply is =
      told_reply state (rows table at values) (λ (version : ℕ). answer.Rows version table) (filter_refusal state.shapes table at values) _ (λ model reply is. is) (rows_told state.shapes table at values named) (λ version x. named) version version-is answered answered-is reply is

  pub roles_reply : (relation : ℕ) (name : List ℕ) (domain : Option (List ℕ)) → has_name (G relation) ≡ true → (answered : Result (List (List ℕ)) QueryRefused) → roles_answer state.shapes (tables state) relation name domain ≡ answered → (reply : Answer) → reply ≡ query_reply (answer.Roles version) answered
      → IsReply state (roles relation name domain) reply
  roles_reply relation name domain named answered answered-is reply is =
      told_reply state (roles relation name domain) answer.Roles (names_refusal state.shapes relation domain) _ (λ model reply is. is) (names_told state.shapes relation domain named) (λ version x. refl) version version-is answered answered-is reply is

  pub users_reply : (relation : ℕ) (name : List ℕ) (domain : Option (List ℕ)) → has_name (G relation) ≡ true → (answered : Result (List (List ℕ)) QueryRefused) → users_answer state.shapes (tables state) relation name domain ≡ answered → (reply : Answer) → reply ≡ query_reply (answer.Users version) answered
      → IsReply state (users relation name domain) reply
  users_reply relation name domain named answered answered-is reply is =
      told_reply state (users relation name domain) answer.Users (names_refusal state.shapes relation domain) _ (λ model reply is. is) (names_told state.shapes relation domain named) (λ version x. refl) version version-is answered answered-is reply is

  -- ---- the edit of a number

  pub recalled_reply : (number : ℕ) (edit copy : List Change) → IsEdit state.log number edit → copy ≡ edit → IsReply state (recalls number) (answer.Recorded version number copy)
  recalled_reply number edit copy is same = record {
    replied = λ model. inl (edit, is, (λ j. answer.Recorded (version-is j) number (same j)));
    printable = refl;
  }

edit_told : (log : Logged) (number : ℕ) → QueryTold (edit_refusal log number)
edit_told log number = by (number == 0 || nat_lt (versions log) number) (nat_le number log.start)
  where
    by : (past dropped : Bool) → QueryTold (if past then Some (query.NoEdit (versions log)) else if dropped then Some (query.Dropped log.start) else None)
    by true dropped = refl
    by false true = refl
    by false false = tt

pub not_recalled : (state : State) (number : ℕ) (refused : QueryRefused) → edit_refusal state.log number ≡ Some refused → IsReply state (recalls number) (answer.Query refused)
not_recalled state number refused is = record { replied = λ model. inr (refused, is, refl); printable = subst QueryTold is (edit_told state.log number) }

-- ---- as it is handed on

-- a refusal that is told
pub told_query : (state : State) (it : Said) (refused : QueryRefused) (result : Option Answer) → result ≡ Some (answer.Query refused) → IsReply state it (answer.Query refused) → IsQueried state it result
told_query state it refused result told is = subst (IsQueried state it) (sym told) is

-- of the same name and domain
pub same_roles : (state : State) (relation : ℕ) (name bytes : List ℕ) (domain copied : Option (List ℕ)) → bytes ≡ name → copied ≡ domain → (reply : Answer) → IsReply state (roles relation bytes copied) reply → IsReply state (roles relation name domain) reply
same_roles state relation name bytes domain copied same-name same-domain reply is =
    subst (λ (n : List ℕ). IsReply state (roles relation n domain) reply) same-name (subst (λ (d : Option (List ℕ)). IsReply state (roles relation bytes d) reply) same-domain is)

pub same_users : (state : State) (relation : ℕ) (name bytes : List ℕ) (domain copied : Option (List ℕ)) → bytes ≡ name → copied ≡ domain → (reply : Answer) → IsReply state (users relation bytes copied) reply → IsReply state (users relation name domain) reply
same_users state relation name bytes domain copied same-name same-domain reply is =
    subst (λ (n : List ℕ). IsReply state (users relation n domain) reply) same-name (subst (λ (d : Option (List ℕ)). IsReply state (users relation bytes d) reply) same-domain is)

-- ---- an item

-- for a query no finder is asked
pub queried : (model : ModelParts) (state : State) (refusals : Refusals) (it : Said) → is_leaders it ≡ false → (result : Option Answer) → IsQueried state it result → MatchOption result (is_leaders it ≡ true) (IsAsked model state refusals refusals it)
queried model state refusals it open_to None is = absurd is
queried model state refusals it open_to (Some reply) is = record { asked = record { refused = []; logged = refl; unasked = λ none. refl }; replied = is.replied model; printable = is.printable }

pub queried_unasked : (refusals : Refusals) (state : State) (it : Said) → is_leaders it ≡ false → (result : Option Answer) → IsQueried state it result → MatchOption result (refusals ≡ refusals) (λ _. is_leaders it ≡ false)
queried_unasked refusals state it open_to None is = absurd is
queried_unasked refusals state it open_to (Some reply) is = open_to

pub not_refused : (model : ModelParts) (refusals : Refusals) (it : Said) → Refuses model refusals refusals it
not_refused model refusals it = record { refused = []; logged = refl; unasked = λ none. refl }

pub asked_reply : (model : ModelParts) (state : State) (before now : Refusals) (reading : Reading) (reply : Answer) → IsAnsweredBy model state before now reading reply → is_printable reply ≡ true → IsAsked model state before now (asks reading) reply
asked_reply model state before now reading reply is printable = record { asked = is.asked; replied = is.answers; printable = printable }

pub synced : (model : ModelParts) (state : State) (refusals : Refusals) (version : ℕ) → version ≡ versions state.log → IsAsked model state refusals refusals syncs (answer.Synced version)
synced model state refusals version is = record { asked = record { refused = []; logged = refl; unasked = λ none. refl }; replied = ap answer.Synced is; printable = refl }

pub on_err_any : {X E P : Type 0} (r : Result X E) → P → OnErr r P
on_err_any (Ok x) p = tt
on_err_any (Err e) p = p
