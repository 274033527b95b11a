-- What the values of a request come to.
use Rattle.std.proofs.Common.{◌≡◌, ℕ, List, Ok, Err, length, map, refl, sym, subst, ◌∙◌}
use Rattle.std.specs.Prelude.{◌≢◌, Result, true}
use Rattle.std.proofs.lemmas.List.{length-map}
use Rattle.model_conf.specs.ModelText.{ModelParts}
use Rattle.decision.specs.Decisions.{IsJudgedWith, RefusedIn}
use Rattle.effect_fold.specs.declared.verdict.Verdict.{Verdict}
use Rattle.matcher_meaning.specs.Verdicts.{IsJudged}
use Rattle.perm_value.specs.Datum.{Datum}
use Rattle.perm_value.specs.Seen.{datum}
use Rattle.perm_value.specs.declared.value.Value.{Value}
use Rattle.perm_value.specs.declared.request.RequestFault.{RequestFault}
use Rattle.perm_value.specs.declared.request.RequestFault.TheVariants as fault
use Rattle.policy_state.specs.States.{State, tables}
use Rattle.regex_gate.proofs.CallerLemmas.{used_none}
use Rattle.regex_gate.specs.Refusals.{IsRefused, IsUsed, Refusals}
use Rattle.script_read.specs.Reads.{Says}
use Rattle.version_log.specs.Log.{versions}
use Rattle.enforce_core.specs.Asked.{AsksValues, LineStops, ask_stop_of}
use Rattle.enforce_core.specs.declared.stops.AskStop.{AskStop}
use Rattle.enforce_core.specs.declared.stops.AskStop.TheVariants as stop
use Rattle.enforce_core.specs.declared.stops.Decided.{Decided}

-- over equal parts
pub asked_at : (model program : ModelParts) (state here : State) (before now : Refusals) (values : List Datum) (result : Result Decided AskStop) → program ≡ model → here ≡ state → AsksValues program here before now values result → AsksValues model state before now values result
asked_at model program state here before now values result same alike asked =
    subst (λ (s : State). AsksValues model s before now values result) alike (subst (λ (m : ModelParts). AsksValues m here before now values result) same asked)

module _ (model : ModelParts) (state : State) where
  -- as many values as a request has
  values_count : (request : List Value) → length (map datum request) ≡ length request
  values_count request = length-map request datum

  -- another number of values than columns; the finder was not asked
  pub values_arity : (refusals : Refusals) (request : List Value) (got want : ℕ) → length request ≢ length model.request → got ≡ length request → want ≡ length model.request → AsksValues model state refusals refusals (map datum request) (Err (stop.Arity got want))
  values_arity refusals request got want others is_got is_want = record {
    decided = tt;
    stopped = ((λ equal. others (sym (values_count request) ∙ equal)), is_got ∙ sym (values_count request), is_want, refl);
    used = used_none refusals;
  }

  -- memory ran out
  pub values_starved : (before now : Refusals) (values : List Datum) → IsUsed before now → AsksValues model state before now values (Err stop.NoMemory)
  values_starved before now values used = record { decided = tt; stopped = tt; used = used }

  -- the verdict
  pub values_decided : (before now : Refusals) (request : List Value) (version : ℕ) (verdict : Verdict) → length request ≡ length model.request → version ≡ versions state.log
      → IsJudged model state.shapes (tables state) (map datum request) (IsRefused before now) verdict → IsJudgedWith model state.shapes (tables state) (map datum request) (RefusedIn model.effect before now) verdict → IsUsed before now
      → AsksValues model state before now (map datum request) (Ok (record { version = version; verdict = verdict }))
  values_decided before now request version verdict fits is judged refused used = record {
    decided = record { fits = values_count request ∙ fits; version_is = is; judged = judged; refused = refused };
    stopped = tt;
    used = used;
  }

-- a line that is no request stops by its fault
pub line_stopped : (line : List ℕ) (why : RequestFault) → (why ≢ fault.NoMemory → Says true line (Err why)) → LineStops line (ask_stop_of why)
line_stopped line fault.NoMemory says = tt
line_stopped line (fault.Quote column) says = says (λ same. cc)
line_stopped line fault.TooMany says = says (λ same. cc)
line_stopped line fault.Syntax says = says (λ same. cc)
line_stopped line fault.NotAnArray says = says (λ same. cc)
line_stopped line (fault.TooDeep field) says = says (λ same. cc)
line_stopped line (fault.NotWhole field) says = says (λ same. cc)
