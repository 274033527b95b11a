-- What a call by way of a cache comes to: behind a hit, behind a miss, and where judging stopped.
use Rattle.std.proofs.Common.{◌≡◌, ◌↔◌, inl, ℕ, true, List, Option, None, sym, subst}
use Rattle.effect_fold.specs.declared.verdict.Verdict.{Verdict}
use Rattle.matcher_meaning.specs.Perm.{is_refusal}
use Rattle.matcher_meaning.specs.Verdicts.{IsVerdict}
use Rattle.model_conf.specs.ModelText.{ModelParts}
use Rattle.perm_value.specs.Datum.{Datum}
use Rattle.policy_state.specs.States.{State, tables}
use Rattle.regex_gate.specs.Refusals.{Refusals}
use Rattle.version_log.specs.Log.{versions}
use Rattle.decision.specs.Decisions.{IsJudgedWith, RefusedIn}
use Rattle.answer_cache.specs.Cached.{Cached, at_version, entries_of}
use Rattle.answer_cache.specs.Answered.{GoesToFront, entries_behind}
use Rattle.answer_cache.specs.Good.{AreJudged, IsGoodFor}
use Rattle.answer_cache.specs.declared.answer.Kept.{Kept}
use Rattle.answer_cache.specs.declared.answer.Kept.TheVariants.{Refused}
use Rattle.answer_cache.proofs.GoodLemmas.{good_at, good_behind, good_moved, none_in, verdict_of_entry}

-- a call begins with the cache at the version of the state
pub record Begins (model : ModelParts) (state : State) (cache start : Cached) : Type 0 where
  pub is : start ≡ at_version (versions state.log) cache
  pub good : IsGoodFor model state cache

module _ (model : ModelParts) (state : State) (cache start : Cached) (begins : Begins model state cache start) where
  pub start_good : AreJudged model state.shapes (tables state) (entries_of start)
  start_good = subst (λ (c : Cached). AreJudged model state.shapes (tables state) (entries_of c)) (sym begins.is) (good_at model state cache begins.good)

  module _ (request : List Datum) (v : Verdict) (after : Cached) where
    module _ (goes : GoesToFront (request, v) (entries_of start) (entries_of after)) where
      pub hit_verdict : IsVerdict model state.shapes (tables state) request None v
      hit_verdict = verdict_of_entry model state.shapes (tables state) request v (entries_of start) (entries_of after) goes start_good

      pub hit_judged : (refusals : Refusals) → IsJudgedWith model state.shapes (tables state) request (RefusedIn model.effect refusals refusals) v
      hit_judged refusals = inl (none_in model.effect refusals, hit_verdict)

      pub hit_good : AreJudged model state.shapes (tables state) (entries_of after)
      hit_good = good_moved model state.shapes (tables state) (request, v) (entries_of start) (entries_of after) goes start_good

    pub miss_good : (IsBad : Option (List ℕ) → Type 0) (kept : Kept) → IsJudgedWith model state.shapes (tables state) request IsBad v → (kept ≡ Refused) ↔ (is_refusal v ≡ true)
        → entries_of after ≡ entries_behind kept start.capacity (request, v) (entries_of start) → AreJudged model state.shapes (tables state) (entries_of after)
    miss_good IsBad kept is refused entries =
        subst (AreJudged model state.shapes (tables state)) (sym entries)
        (good_behind model state.shapes (tables state) request IsBad v kept start.capacity (entries_of start) is refused start_good)
