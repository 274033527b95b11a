-- What an item is answered is one thing, is there, and stays where more patterns were refused.
use Rattle.std.proofs.Common.{◌≡◌, ℕ, Bool, true, false, eqb, List, length, Ok, Err, refl, sym, ap, ◌∙◌}
use Rattle.std.specs.Prelude.{Contains, MatchBool}
use Rattle.answer_lines.specs.declared.answer.Answer.{Answer}
use Rattle.answer_lines.specs.declared.answer.Answer.TheVariants as answer
use Rattle.effect_fold.specs.declared.verdict.Verdict.{Verdict}
use Rattle.matcher_meaning.specs.Verdicts.{IsJudged}
use Rattle.model_conf.specs.ModelText.{ModelParts}
use Rattle.perm_base.specs.declared.shapes.Shapes.{Shapes}
use Rattle.perm_value.specs.Datum.{Datum}
use Rattle.policy_query.specs.Names.{roles_answer, users_answer}
use Rattle.policy_query.specs.Rules.{has_answer, rows_answer}
use Rattle.policy_table.specs.Tables.{Policy}
use Rattle.script_read.specs.Said.{Reading, Said}
use Rattle.script_read.specs.Said as said
use Rattle.session_meaning.specs.Given.{call_answer, given}
use Rattle.session_meaning.specs.Replies.{IsAnswerTo, IsDecided, IsReplyAt, call_reply, is_decided, query_reply, recalled, rule_of}
use Rattle.session_meaning.specs.Versions.{out, published}

-- what is judged for a request on tables is one verdict, whether these patterns were refused or those
abbrev pub OneJudged : ModelParts → Shapes → List (List ℕ) → List (List ℕ) → Type 0
OneJudged model shapes few many = (policy : Policy) (values : List Datum) (first second : Verdict) → IsJudged model shapes policy values (Contains few) first → IsJudged model shapes policy values (Contains many) second → first ≡ second

-- something is
abbrev pub SomeJudged : ModelParts → Shapes → List (List ℕ) → Type 0
SomeJudged model shapes refused = (policy : Policy) (values : List Datum) → (v : Verdict) × IsJudged model shapes policy values (Contains refused) v

-- what is judged where some patterns were refused is judged where others were
abbrev pub StaysJudged : ModelParts → Shapes → List (List ℕ) → List (List ℕ) → Type 0
StaysJudged model shapes few many = (policy : Policy) (values : List Datum) (v : Verdict) → IsJudged model shapes policy values (Contains few) v → IsJudged model shapes policy values (Contains many) v

-- ---- requests

module _ (model : ModelParts) (shapes : Shapes) (version : ℕ) (policy : Policy) where
  module _ (few many : List (List ℕ)) where
    decided_one : OneJudged model shapes few many → (values : List Datum) (first second : Answer) → IsDecided model shapes few version policy values first → IsDecided model shapes many version policy values second → first ≡ second
    decided_one one values first second p q =
        p.told
        ∙ ap (λ (v : Verdict). answer.Decided version v (rule_of policy v)) (one policy values p.verdict q.verdict p.judged q.judged)
        ∙ sym q.told

    answer_one : OneJudged model shapes few many → (reading : Reading) (first second : Answer) → IsAnswerTo model shapes few version policy reading first → IsAnswerTo model shapes many version policy reading second → first ≡ second
    answer_one one (Err fault) first second p q = p ∙ sym q
    answer_one one (Ok values) first second p q = by (eqb (length values) (length model.request)) p q
      where
        by : (fits : Bool) → MatchBool fits (IsDecided model shapes few version policy values first) (first ≡ answer.Arity (length values) (length model.request))
            → MatchBool fits (IsDecided model shapes many version policy values second) (second ≡ answer.Arity (length values) (length model.request)) → first ≡ second
        by true is same = decided_one one values first second is same
        by false is same = is ∙ sym same

  module _ (refused : List (List ℕ)) where
    answer_some : SomeJudged model shapes refused → (reading : Reading) → (reply : Answer) × IsAnswerTo model shapes refused version policy reading reply
    answer_some some (Err fault) = (answer.Request fault, refl)
    answer_some some (Ok values) = by (eqb (length values) (length model.request))
      where
        by : (fits : Bool) → (reply : Answer) × MatchBool fits (IsDecided model shapes refused version policy values reply) (reply ≡ answer.Arity (length values) (length model.request))
        by true =
            let found = some policy values in
            (answer.Decided version found.0 (rule_of policy found.0), record { verdict = found.0; judged = found.1; told = refl })
        by false = (answer.Arity (length values) (length model.request), refl)

  answer_stays : (few many : List (List ℕ)) → StaysJudged model shapes few many → (values : List Datum) (reply : Answer) → IsAnswerTo model shapes few version policy (Ok values) reply → IsAnswerTo model shapes many version policy (Ok values) reply
  answer_stays few many stays values reply is = by (eqb (length values) (length model.request)) is
    where
      by : (fits : Bool) → MatchBool fits (IsDecided model shapes few version policy values reply) (reply ≡ answer.Arity (length values) (length model.request))
          → MatchBool fits (IsDecided model shapes many version policy values reply) (reply ≡ answer.Arity (length values) (length model.request))
      by true decided = record { verdict = decided.verdict; judged = stays policy values decided.verdict decided.judged; told = decided.told }
      by false told = told

-- ---- items

module _ (model : ModelParts) (shapes : Shapes) (opening : Policy) (before : List Said) (at : ℕ) (over : Policy) where
  pub reply_one : (few many : List (List ℕ)) → OneJudged model shapes few many → (item : Said) (first second : Answer) → IsReplyAt model shapes opening few before at over item first → IsReplyAt model shapes opening many before at over item second → first ≡ second
  reply_one few many one (said.asks reading) first second p q = answer_one model shapes at over few many one reading first second p q
  reply_one few many one (said.edits call) first second p q = p ∙ sym q
  reply_one few many one said.publishes first second p q = p ∙ sym q
  reply_one few many one said.syncs first second p q = p ∙ sym q
  reply_one few many one (said.has table rule) first second p q = p ∙ sym q
  reply_one few many one (said.rows table place values) first second p q = p ∙ sym q
  reply_one few many one (said.roles relation name domain) first second p q = p ∙ sym q
  reply_one few many one (said.users relation name domain) first second p q = p ∙ sym q
  reply_one few many one (said.keeps count) first second p q = p ∙ sym q
  reply_one few many one (said.recalls number) first second p q = p ∙ sym q

  pub reply_some : (refused : List (List ℕ)) → SomeJudged model shapes refused → (item : Said) → (reply : Answer) × IsReplyAt model shapes opening refused before at over item reply
  reply_some refused some (said.asks reading) = answer_some model shapes at over refused some reading
  reply_some refused some (said.edits call) = (call_reply (call_answer shapes opening (given shapes opening before) call), refl)
  reply_some refused some said.publishes = (answer.Published (length (given shapes opening before)), refl)
  reply_some refused some said.syncs = (answer.Synced (out shapes opening before), refl)
  reply_some refused some (said.has table rule) = (query_reply (answer.Has (out shapes opening before)) (has_answer shapes (published shapes opening before) table rule), refl)
  reply_some refused some (said.rows table place values) = (query_reply (answer.Rows (out shapes opening before) table) (rows_answer shapes (published shapes opening before) table place values), refl)
  reply_some refused some (said.roles relation name domain) = (query_reply (answer.Roles (out shapes opening before)) (roles_answer shapes (published shapes opening before) relation name domain), refl)
  reply_some refused some (said.users relation name domain) = (query_reply (answer.Users (out shapes opening before)) (users_answer shapes (published shapes opening before) relation name domain), refl)
  reply_some refused some (said.keeps count) = (answer.Kept count, refl)
  reply_some refused some (said.recalls number) = (query_reply (answer.Recorded (out shapes opening before) number) (recalled shapes opening before number), refl)

  -- a request that is decided is answered so where more patterns were refused
  pub reply_stays : (few many : List (List ℕ)) → StaysJudged model shapes few many → (item : Said) (reply : Answer) → is_decided model item ≡ true → IsReplyAt model shapes opening few before at over item reply → IsReplyAt model shapes opening many before at over item reply
  reply_stays few many stays (said.asks (Ok values)) reply decided is = answer_stays model shapes at over few many stays values reply is
  reply_stays few many stays _ reply decided is = absurd cc
