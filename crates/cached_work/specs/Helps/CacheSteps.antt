-- What lines of requests do to a cache, and what printing them comes to.
use Rattle.std.specs.Prelude.{◌≡◌, ℕ, ◌≤◌, Bool, List, Option, Result, IfErr, OnErr, OnOk, String}
use Rattle.std.specs.declared.alloc.Global.{Global}
use Rattle.answer_cache.specs.Cached.{Cached, entries_of}
use Rattle.answer_cache.specs.Good.{AreJudged}
use Rattle.desk_session.specs.Requests.{TellsAnswer}
use Rattle.model_conf.specs.ModelText.{ModelParts}
use Rattle.outside.specs.Faults.{Rose}
use Rattle.perm_base.specs.declared.shapes.Shapes.{Shapes}
use Rattle.policy_state.specs.States.{State, tables}
use Rattle.policy_table.specs.Tables as table
use Rattle.regex_gate.specs.Refusals.{IsUsed, Refusals}
use Rattle.run_status.specs.Told.{IsTold}
use Rattle.run_status.specs.Hits.{hits_line}
use Rattle.run_status.specs.declared.stop.Stop.{Stop}
use Rattle.script_read.specs.Said.{Reading, Said, asks}
use Rattle.version_log.specs.Log.{versions}
use Rattle.cached_work.specs.CacheHits.{Counts, Turns, hits_of, opened}
use Rattle.loaded_work.specs.Helps.TaskSteps.{AnswerStops, AnswersLine, PrintedAll}
use Rattle.loaded_work.specs.Sinks.{Taken}

-- the cache is of the policy's version, and its verdicts are those of the model over the policy
pub record IsGoodCache (model : ModelParts) (state : State) (cache : Cached) : Type 0 where
  pub version : cache.version ≡ versions state.log
  pub judged : AreJudged model state.shapes (tables state) (entries_of cache)

-- a request is answered by a line, by way of a cache
pub record TellsCached (model : ModelParts) (state : State) (before now : Refusals) (reading : Reading) (number : ℕ) (old new : String Global) (cache cache_now : Cached) (hit : Bool) : Type 0 where
  pub told : TellsAnswer model state before now reading number old new
  pub turn : Turns (asks reading) told.reply cache cache_now (hits_of hit)

-- a line of requests is
pub record AnswersCached (model : ModelParts) (state : State) (json : Bool) (before now : Refusals) (line : List ℕ) (number : ℕ) (old new : String Global) (cache cache_now : Cached) (hit : Bool) : Type 0 where
  pub answers : AnswersLine model state json before now line number old new
  pub turn : Turns (asks answers.reading) answers.told.reply cache cache_now (hits_of hit)

-- lines of which the sink took the whole text, and how many requests were answered from a cache of this capacity
pub record PrintedCached (IsSaid : List Said → Type 0) (model : ModelParts) (shapes : Shapes) (policy : table.Policy) (before now : Refusals) (out out_now : Option (List ℕ)) (capacity : ℕ) (hits : ℕ) : Type 0 where
  pub all : PrintedAll IsSaid model shapes policy before now out out_now
  pub after : Cached
  pub counts : Counts (opened capacity) all.printed.items all.printed.lines hits after

-- the same, and `err` took the line that tells the hits
pub record CachedAll (IsSaid : List Said → Type 0) (model : ModelParts) (shapes : Shapes) (policy : table.Policy) (before now : Refusals) (out out_now : Option (List ℕ)) (capacity : ℕ) (err err_now : Taken) : Type 0 where
  pub hits : ℕ
  pub printed : PrintedCached IsSaid model shapes policy before now out out_now capacity hits
  pub line : IsTold err.bytes err_now.bytes err.faults err_now.faults (hits_line hits)

-- what answering the items that are said by way of a cache comes to
pub record CachedAnswered (IsSaid : List Said → Type 0) (model : ModelParts) (shapes : Shapes) (policy : table.Policy) (capacity : ℕ) (before now : Refusals) (out out_now err err_now : Taken) (result : Result (Unit {0}) Stop) : Type 0 where
  pub printed : OnOk result (CachedAll IsSaid model shapes policy before now out.bytes out_now.bytes capacity err err_now)
  pub stopped : IfErr result (AnswerStops IsSaid model shapes policy before now out.bytes out_now.bytes (Rose out.faults out_now.faults))
  pub silent : OnErr result (err_now ≡ err)
  pub counted : out.faults ≤ out_now.faults
  pub err_counted : err.faults ≤ err_now.faults
  pub used : IsUsed before now
