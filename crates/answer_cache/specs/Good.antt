-- Caches whose verdicts are those that judging anew gives.
use Rattle.std.specs.Prelude.{◌≡◌, ◌≤◌, List, All, None}
use Rattle.matcher_meaning.specs.Verdicts.{IsVerdict}
use Rattle.model_conf.specs.ModelText.{ModelParts}
use Rattle.perm_base.specs.declared.shapes.Shapes.{Shapes}
use Rattle.policy_state.specs.States.{State, tables}
use Rattle.policy_table.specs.Tables.{Policy}
use Rattle.version_log.specs.Log.{versions}
use Rattle.answer_cache.specs.Cached.{Cached, Entry, entries_of}

-- each verdict is the one of the model on its request over these tables, where nothing is refused
abbrev pub AreJudged : ModelParts → Shapes → Policy → List Entry → Type 0
AreJudged model shapes policy entries = All (λ entry. IsVerdict model shapes policy entry.0 None entry.1) entries

-- where the cache is of the state's version, its verdicts are of the state
abbrev pub IsGoodFor : ModelParts → State → Cached → Type 0
IsGoodFor model state cache = cache.version ≡ versions state.log → AreJudged model state.shapes (tables state) (entries_of cache)

-- the cache serves for a state, and for those that come of it: it is of no later version, and good
pub record Serves (model : ModelParts) (state : State) (cache : Cached) : Type 0 where
  pub older : cache.version ≤ versions state.log
  pub good : IsGoodFor model state cache
