-- Good caches stay good, and what they answer is what judging gives.
use Rattle.std.proofs.Common.{◌≡◌, ◌↔◌, inl, inr, ℕ, ◌==◌, eqb-true, Bool, true, false, true≢false, List, ◌∷◌, Option, None, refl, sym, ap, ◌∙◌}
use Rattle.std.proofs.lemmas.List.Elements.{All-nil, All-cons, All-contains, All-take}
use Rattle.effect_fold.specs.declared.effect.Effect.{Effect}
use Rattle.effect_fold.specs.declared.effect.Effect.TheVariants as effect
use Rattle.effect_fold.specs.declared.verdict.Verdict.{Verdict}
use Rattle.matcher_meaning.specs.Perm.{is_refusal}
use Rattle.matcher_meaning.specs.Verdicts.{IsVerdict}
use Rattle.model_conf.specs.ModelText.{ModelParts}
use Rattle.perm_base.specs.declared.shapes.Shapes.{Shapes}
use Rattle.perm_value.specs.Datum.{Datum}
use Rattle.policy_state.specs.States.{State, tables}
use Rattle.policy_table.specs.Tables.{Policy}
use Rattle.regex_gate.specs.Refusals.{Refusals}
use Rattle.version_log.specs.Log.{versions}
use Rattle.decision.specs.Decisions.{IsJudgedWith, RefusedIn}
use Rattle.answer_cache.specs.Cached.{Cached, Entry, at_version, entries_of}
use Rattle.answer_cache.specs.Answered.{GoesToFront, entries_behind}
use Rattle.answer_cache.specs.Good.{AreJudged, IsGoodFor}
use Rattle.answer_cache.specs.declared.answer.Kept.{Kept}
use Rattle.answer_cache.specs.declared.answer.Kept.TheVariants.{Yes, Refused, NoMemory}
use Rattle.answer_cache.proofs.EntryLemmas.{all_moved, moved_stood}

-- the cache at the version of a state is good
pub good_at : (model : ModelParts) (state : State) (cache : Cached) → IsGoodFor model state cache → AreJudged model state.shapes (tables state) (entries_of (at_version (versions state.log) cache))
good_at model state cache good = by (cache.version == versions state.log) refl
  where
    by : (t : Bool) → cache.version == versions state.log ≡ t → AreJudged model state.shapes (tables state) (entries_of (at_version (versions state.log) cache))
    by true t = rw t (good (eqb-true cache.version (versions state.log) t))
    by false t = rw t (All-nil (λ (entry : Entry). IsVerdict model state.shapes (tables state) entry.0 None entry.1))

-- ---- a hit

-- under each effect nothing was refused where the finder was not asked
pub none_in : (e : Effect) (refusals : Refusals) → RefusedIn e refusals refusals None
none_in effect.AllowOverride refusals = refl
none_in effect.DenyOverride refusals = refl
none_in effect.AllowAndDeny refusals = refl
none_in effect.Priority refusals = refl
none_in effect.SubjectPriority refusals = tt

module _ (model : ModelParts) (shapes : Shapes) (policy : Policy) where
  -- the verdict of an entry
  pub verdict_of_entry : (request : List Datum) (v : Verdict) (before after : List Entry) → GoesToFront (request, v) before after → AreJudged model shapes policy before → IsVerdict model shapes policy request None v
  verdict_of_entry request v before after goes good =
      All-contains (λ (entry : Entry). IsVerdict model shapes policy entry.0 None entry.1) before (request, v) good (moved_stood (request, v) before after goes)

  pub good_moved : (item : Entry) (before after : List Entry) → GoesToFront item before after → AreJudged model shapes policy before → AreJudged model shapes policy after
  good_moved item before after goes good = all_moved (λ (entry : Entry). IsVerdict model shapes policy entry.0 None entry.1) item before after goes good

  -- ---- a miss

  -- a verdict that is no fault of a pattern was judged with nothing refused
  unrefused : (request : List Datum) (IsBad : Option (List ℕ) → Type 0) (v : Verdict) → IsJudgedWith model shapes policy request IsBad v → is_refusal v ≡ false → IsVerdict model shapes policy request None v
  unrefused request IsBad v (inl (none, is)) plain = is
  unrefused request IsBad v (inr (refusal, bad, fault, is)) plain = absurd (true≢false (sym (ap is_refusal fault) ∙ plain))

  pub good_behind : (request : List Datum) (IsBad : Option (List ℕ) → Type 0) (v : Verdict) (kept : Kept) (capacity : ℕ) (before : List Entry) → IsJudgedWith model shapes policy request IsBad v
      → (kept ≡ Refused) ↔ (is_refusal v ≡ true) → AreJudged model shapes policy before → AreJudged model shapes policy (entries_behind kept capacity (request, v) before)
  good_behind request IsBad v Yes capacity before is refused good =
      All-take (λ (entry : Entry). IsVerdict model shapes policy entry.0 None entry.1) capacity ((request, v) ∷ before)
      (All-cons (λ (entry : Entry). IsVerdict model shapes policy entry.0 None entry.1) (request, v) before (unrefused request IsBad v is (by (is_refusal v) refl)) good)
    where
      by : (t : Bool) → is_refusal v ≡ t → is_refusal v ≡ false
      by true t = let h = refused.1 t in cc
      by false t = t
  good_behind request IsBad v Refused capacity before is refused good = good
  good_behind request IsBad v NoMemory capacity before is refused good = good
