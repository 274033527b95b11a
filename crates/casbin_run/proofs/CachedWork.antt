-- What answering by way of a cache comes to as a task.
use Rattle.std.proofs.Common.{ℕ, Bool, List, refl}
use Rattle.std.specs.Prelude.{Option}
use Rattle.regex_gate.specs.Refusals.{Refusals}
use Rattle.script_read.specs.Said.{Said}
use Rattle.loaded_work.specs.Finders.{HasRefused}
use Rattle.casbin_run.specs.Given.{SaysItems}
use Rattle.cached_work.specs.Helps.CacheSteps.{CachedAll}
use Rattle.casbin_run.specs.Helps.Tasks.{DidAll, ground}
use Rattle.loaded_work.specs.Sinks.{Taken}
use Rattle.loaded_work.specs.declared.loaded.Loaded.{Loaded}
use Rattle.casbin_run.specs.declared.job.Task.TheVariants.{Cached}
use Rattle.casbin_run.proofs.WorkLemmas.{answered_all}

-- all lines and the line of the hits
pub cached_done : (json : Bool) (capacity : ℕ) (loaded : Loaded) (left : Option (List ℕ)) (IsSaid : List Said → Type 0) → ((items : List Said) → IsSaid items → SaysItems (Cached json capacity) left items)
    → (before now : Refusals) (out out_now : Option (List ℕ)) (err err_now : Taken) → CachedAll IsSaid loaded.model loaded.shapes loaded.tables.policy before now out out_now capacity err err_now
    → DidAll (ground (Cached json capacity) loaded left) (HasRefused before now) out out_now err err_now
cached_done json capacity loaded left IsSaid says before now out out_now err err_now all =
    let printed = all.printed.all.printed in
    answered_all (ground (Cached json capacity) loaded left) (λ items refused pieces text lines. lines) tt refl IsSaid says before now out out_now err err_now all.printed.all (
      all.hits,
      record { lines = printed.lines; plain = printed.plain; text_is = refl; after = all.printed.after; counts = all.printed.counts },
      all.line,
    )
