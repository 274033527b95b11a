-- What a request is answered over a policy, and its line.
use Rattle.std.proofs.Common.{◌≡◌, ℕ, ◌==◌, Bool, true, false, List, [], ◌∷◌, ◌++◌, Option, Ok, Err, String, length, map, refl, sym, ap, subst, ◌∙◌}
use Rattle.std.specs.Prelude.{MatchBool}
use Rattle.std.specs.declared.alloc.Global.{Global}
use Rattle.std.proofs.lemmas.Bool.{eq-eqb, ne_eqb}
use Rattle.std.proofs.lemmas.List.{length-map}
use Rattle.answer_lines.specs.LineText.{Appends, decided_text, line_text}
use Rattle.answer_lines.specs.Printed.{PrintedAnswer, printed_answer}
use Rattle.answer_lines.specs.Told.{comes_with_rule, is_printable}
use Rattle.answer_lines.specs.declared.answer.Answer.{Answer}
use Rattle.answer_lines.specs.declared.answer.Answer.TheVariants as answer
use Rattle.effect_fold.specs.declared.verdict.Verdict.{Verdict}
use Rattle.matcher_meaning.specs.Verdicts.{IsJudged}
use Rattle.model_conf.specs.ModelText.{ModelParts}
use Rattle.perm_value.specs.Datum.{Datum}
use Rattle.perm_value.specs.Seen.{datum}
use Rattle.perm_value.specs.declared.request.RequestFault.{RequestFault}
use Rattle.perm_value.specs.declared.value.Value.{Value}
use Rattle.policy_state.specs.States.{State, tables}
use Rattle.policy_table.specs.Tables.{Fields}
use Rattle.regex_gate.specs.Refusals.{IsRefused, IsUsed, Refusals}
use Rattle.script_read.specs.Said.{Reading, asks}
use Rattle.session_meaning.proofs.CallerLemmas.{RowsAreMoved, rule_stands}
use Rattle.session_meaning.specs.Replies.{IsDecided, rule_of}
use Rattle.version_log.specs.Log.{versions}
use Rattle.desk_session.specs.Requests.{AddsReply, IsAnsweredBy, Refuses, TellsAnswer}
use Rattle.desk_session.proofs.LogLemmas.{judged_in, none_asked}

-- the verdict comes with its rule
pub decided_printable : RowsAreMoved → (model : ModelParts) (state : State) (IsBad : List ℕ → Type 0) (values : List Datum) (version : ℕ) (verdict : Verdict) (rule : Option Fields) → IsJudged model state.shapes (tables state) values IsBad verdict
    → rule ≡ rule_of (tables state) verdict → is_printable (answer.Decided version verdict rule) ≡ true
decided_printable moved model state IsBad values version verdict rule judged rule-is =
    ap (comes_with_rule verdict) rule-is ∙ rule_stands (tables state) moved model state.shapes values IsBad verdict judged

-- a request with so many values as the model has columns
fits : (model : ModelParts) (values : List Value) → length values ≡ length model.request → (length (map datum values) == length model.request) ≡ true
fits model values equal = eq-eqb (length (map datum values)) (length model.request) (length-map values datum ∙ equal)

-- it is decided, so that the finder may have been asked
pub asked_decided : (model : ModelParts) (values : List Value) (before now : Refusals) → length values ≡ length model.request → IsUsed before now → Refuses model before now (asks (Ok (map datum values)))
asked_decided model values before now equal used = record {
  refused = used.more;
  logged = used.refused;
  unasked = λ calm. let both : true ≡ false = sym (fits model values equal) ∙ calm in absurd cc;
}

module _ (model : ModelParts) (state : State) where
  -- why a line is no request
  pub answers_fault : (refusals : Refusals) (fault : RequestFault) → IsAnsweredBy model state refusals refusals (Err fault) (answer.Request fault)
  answers_fault refusals fault = record { asked = none_asked model refusals (asks (Err fault)); answers = refl }

  -- a request with another number of values
  pub answers_arity : (refusals : Refusals) (values : List Value) (got want : ℕ) → (length values ≡ length model.request → ⊥) → got ≡ length values → want ≡ length model.request → IsAnsweredBy model state refusals refusals (Ok (map datum values)) (answer.Arity got want)
  answers_arity refusals values got want others is_got is_want = record {
    asked = none_asked model refusals (asks (Ok (map datum values)));
    answers = subst (λ (b : Bool). MatchBool b (IsDecided model state.shapes [] (versions state.log) (tables state) (map datum values) (answer.Arity got want)) (answer.Arity got want ≡ answer.Arity (length (map datum values)) (length model.request))) (sym unequal) same;
  }
    where
      size : length (map datum values) ≡ length values
      size = length-map values datum

      unequal : (length (map datum values) == length model.request) ≡ false
      unequal = ne_eqb (length (map datum values)) (length model.request) (λ equal. others (sym size ∙ equal))

      same : answer.Arity got want ≡ answer.Arity (length (map datum values)) (length model.request)
      same = ap (λ (n : ℕ). answer.Arity n want) (is_got ∙ sym size) ∙ ap (answer.Arity (length (map datum values))) is_want

  -- a verdict
  pub answers_decided : (before now : Refusals) (values : List Value) (version : ℕ) (verdict : Verdict) (rule : Option Fields) → length values ≡ length model.request → IsUsed before now
      → IsJudged model state.shapes (tables state) (map datum values) (IsRefused before now) verdict → version ≡ versions state.log → rule ≡ rule_of (tables state) verdict
      → IsAnsweredBy model state before now (Ok (map datum values)) (answer.Decided version verdict rule)
  unfolding asked_decided
  answers_decided before now values version verdict rule equal used judged is_version is_rule = record {
    asked = asked_decided model values before now equal used;
    answers = subst (λ (b : Bool). MatchBool b (IsDecided model state.shapes used.more (versions state.log) (tables state) (map datum values) (answer.Decided version verdict rule)) (answer.Decided version verdict rule ≡ answer.Arity (length (map datum values)) (length model.request)))
        (sym (fits model values equal)) decided;
  }
    where
      decided : IsDecided model state.shapes used.more (versions state.log) (tables state) (map datum values) (answer.Decided version verdict rule)
      decided = record {
        verdict = verdict;
        judged = judged_in model state.shapes (tables state) (map datum values) before now used.more verdict used.refused judged;
        told = ap (λ (v : ℕ). answer.Decided v verdict rule) is_version ∙ ap (answer.Decided (versions state.log) verdict) is_rule;
      }

  -- a reply that is put in behind others
  pub adds_reply : (before now : Refusals) (reading : Reading) (old new : List PrintedAnswer) (reply : Answer) → IsAnsweredBy model state before now reading reply → new ≡ old ++ printed_answer reply ∷ [] → AddsReply model state before now reading old new
  adds_reply before now reading old new reply answered added = record { reply = reply; answered = answered; added = added }

  -- the line of an answer
  pub tells : (before now : Refusals) (reading : Reading) (number : ℕ) (old new : String Global) (reply : Answer) → IsAnsweredBy model state before now reading reply → Appends old new (line_text (record { number = number; answer = reply }))
      → TellsAnswer model state before now reading number old new
  tells before now reading number old new reply answered appended = record { reply = reply; answered = answered; appended = appended }

  pub tells_decided : (before now : Refusals) (reading : Reading) (number : ℕ) (old new : String Global) (version : ℕ) (verdict : Verdict) (rule : Option Fields) → IsAnsweredBy model state before now reading (answer.Decided version verdict rule)
      → Appends old new (decided_text number version verdict rule) → TellsAnswer model state before now reading number old new
  tells_decided before now reading number old new version verdict rule answered appended = record { reply = answer.Decided version verdict rule; answered = answered; appended = appended }
