-- What an item of a script is answered behind others: queries by the tables that are out, calls by the drafts, and requests by the
-- tables of a version, which is the one that is out where all items are done one after the other.
use Rattle.std.specs.Prelude.{◌≡◌, ℕ, ◌-◌, ◌==◌, ◌||◌, nat_le, nat_lt, Bool, false, List, [], length, Option, Some, None, Result, Ok, Err, MatchBool, get_or, if◌then◌else◌, is_some, slice_get}
use Rattle.std.specs.List.{Contains}
use Rattle.answer_lines.specs.declared.answer.Answer.{Answer}
use Rattle.answer_lines.specs.declared.answer.Answer.TheVariants as answer
use Rattle.edit_calls.specs.Answers.{CallAnswer}
use Rattle.effect_fold.specs.declared.verdict.Verdict.{Verdict}
use Rattle.effect_fold.specs.declared.verdict.Verdict.TheVariants.{Allow, Deny, Fault}
use Rattle.matcher_meaning.specs.Verdicts.{IsJudged}
use Rattle.model_conf.specs.ModelText.{ModelParts}
use Rattle.perm_base.specs.declared.shapes.Shapes.{Shapes}
use Rattle.perm_base.specs.declared.shapes.TableId.TheVariants.{P}
use Rattle.perm_value.specs.Datum.{Datum}
use Rattle.policy_query.specs.Answers.{answer_unless}
use Rattle.policy_query.specs.Names.{roles_answer, users_answer}
use Rattle.policy_query.specs.Rules.{has_answer, rows_answer}
use Rattle.policy_query.specs.declared.refused.QueryRefused.{QueryRefused}
use Rattle.policy_query.specs.declared.refused.QueryRefused.TheVariants.{NoEdit, Dropped}
use Rattle.policy_table.specs.Tables.{Fields, Policy, rows}
use Rattle.policy_table.specs.declared.change.Change.{Change}
use Rattle.script_read.specs.Said.{Reading, Said}
use Rattle.script_read.specs.Said as said
use Rattle.session_meaning.specs.Given.{call_answer, given}
use Rattle.session_meaning.specs.Versions.{out, published, start}

-- the rule of p at a row, counted from 1
abbrev pub rule_at : Policy → Option ℕ → Option Fields
rule_at policy None = None
rule_at policy (Some row) = slice_get (rows policy P) (row - 1)

-- the rule of the row that a verdict names, where it names one and is no fault
abbrev pub rule_of : Policy → Verdict → Option Fields
rule_of policy (Allow row) = rule_at policy row
rule_of policy (Deny row) = rule_at policy row
rule_of policy (Fault row failed) = None

-- whether a call changes the drafts, or why it is refused
abbrev pub call_reply : CallAnswer → Answer
call_reply (Ok edit) = answer.Truth (is_some edit)
call_reply (Err refused) = answer.Call refused

-- what a query gives, or why it is refused
abbrev pub query_reply : {T : Type 0} → (T → Answer) → Result T QueryRefused → Answer
query_reply told (Ok value) = told value
query_reply told (Err refused) = answer.Query refused

-- why no edit of a number is kept: edits are numbered from 1 to the version that is out, and those up to the start are dropped
abbrev pub recall_refusal : ℕ → ℕ → ℕ → Option QueryRefused
recall_refusal version start number =
    if number == 0 || nat_lt version number then Some (NoEdit version)
    else if nat_le number start then Some (Dropped start)
    else None

-- the edit of a number among those that items give, while it is kept
abbrev pub recalled : Shapes → Policy → List Said → ℕ → Result (List Change) QueryRefused
recalled shapes opening items number = answer_unless (recall_refusal (out shapes opening items) (start shapes opening items) number) (get_or (given shapes opening items) (number - 1) [])

-- the item is a request with as many values as the model has columns: these alone are decided
abbrev pub is_decided : ModelParts → Said → Bool
is_decided model (said.asks (Ok values)) = length values == length model.request
is_decided model _ = false

-- at a version of these tables, where these patterns were refused
module _ (model : ModelParts) (shapes : Shapes) (refused : List (List ℕ)) (version : ℕ) (tables : Policy) where
  -- the verdict that is judged for a request, with the version, and the rule that the verdict names
  pub record IsDecided (values : List Datum) (reply : Answer) : Type 0 where
    pub verdict : Verdict
    pub judged : IsJudged model shapes tables values (Contains refused) verdict
    pub told : reply ≡ answer.Decided version verdict (rule_of tables verdict)

  -- what the line of a request is answered: where it has as many values as the model has columns, its verdict; and else why not
  abbrev pub IsAnswerTo : Reading → Answer → Type 0
  IsAnswerTo (Ok values) reply = MatchBool (length values == length model.request) (IsDecided values reply) (reply ≡ answer.Arity (length values) (length model.request))
  IsAnswerTo (Err fault) reply = reply ≡ answer.Request fault

module _ (model : ModelParts) (shapes : Shapes) (opening : Policy) (refused : List (List ℕ)) (before : List Said) where
  -- behind these items: the version that is out, its tables, and the edits that are given
  abbrev version : ℕ
  version = out shapes opening before

  abbrev tables : Policy
  tables = published shapes opening before

  abbrev edits : List (List Change)
  edits = given shapes opening before

  -- what a further item is answered, where a request is answered at this version of these tables
  abbrev pub IsReplyAt : ℕ → Policy → Said → Answer → Type 0
  IsReplyAt at over (said.asks reading) reply = IsAnswerTo model shapes refused at over reading reply
  IsReplyAt at over (said.edits call) reply = reply ≡ call_reply (call_answer shapes opening edits call)
  IsReplyAt at over said.publishes reply = reply ≡ answer.Published (length edits)
  IsReplyAt at over said.syncs reply = reply ≡ answer.Synced version
  IsReplyAt at over (said.has table rule) reply = reply ≡ query_reply (answer.Has version) (has_answer shapes tables table rule)
  IsReplyAt at over (said.rows table place values) reply = reply ≡ query_reply (answer.Rows version table) (rows_answer shapes tables table place values)
  IsReplyAt at over (said.roles relation name domain) reply = reply ≡ query_reply (answer.Roles version) (roles_answer shapes tables relation name domain)
  IsReplyAt at over (said.users relation name domain) reply = reply ≡ query_reply (answer.Users version) (users_answer shapes tables relation name domain)
  IsReplyAt at over (said.keeps count) reply = reply ≡ answer.Kept count
  IsReplyAt at over (said.recalls number) reply = reply ≡ query_reply (answer.Recorded version number) (recalled shapes opening before number)

  -- what it is answered where a request is answered by what is out
  abbrev pub IsReply : Said → Answer → Type 0
  IsReply item reply = IsReplyAt version tables item reply
