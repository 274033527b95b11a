-- What callers cite: caches that serve for a policy, from their opening on.
use Rattle.std.proofs.Common.{◌≡◌, arith, List, [], map, None, sym, subst}
use Rattle.std.proofs.lemmas.List.Elements.{All-nil}
use Rattle.matcher_meaning.specs.Verdicts.{IsVerdict}
use Rattle.model_conf.specs.ModelText.{ModelParts}
use Rattle.perm_value.specs.Seen.{datum}
use Rattle.perm_value.specs.declared.value.Value.{Value}
use Rattle.effect_fold.specs.declared.verdict.Verdict.{Verdict}
use Rattle.policy_state.specs.States.{State, tables}
use Rattle.version_log.specs.Log.{versions}
use Rattle.answer_cache.specs.Cached.{Cached, Entry, entries_of}
use Rattle.answer_cache.specs.Good.{AreJudged, Serves}
pub use Rattle.answer_cache.proofs.SeatLemmas.{same_edits, same_tables, serves_later}

-- a cache of the state's version whose verdicts are judged
pub serves_after : (model : ModelParts) (state : State) (cache : Cached) → cache.version ≡ versions state.log → AreJudged model state.shapes (tables state) (entries_of cache) → Serves model state cache
serves_after model state cache version good = record { older = omega (arith, version); good = λ is. good }

-- one without entries
pub serves_empty : (model : ModelParts) (state : State) (cache : Cached) → cache.version ≡ versions state.log → cache.entries ≡ [] → Serves model state cache
serves_empty model state cache version none =
    serves_after model state cache version
    (subst (λ (entries : List (List Value × Verdict)). AreJudged model state.shapes (tables state) (map (λ (entry : List Value × Verdict). (map datum entry.0, entry.1)) entries)) (sym none)
    (All-nil (λ (entry : Entry). IsVerdict model state.shapes (tables state) entry.0 None entry.1)))
