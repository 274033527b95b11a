-- What answering by way of a cache comes to.
use Rattle.std.proofs.Common.{◌≡◌, ℕ, ◌≤◌, List, inl, inr, refl, subst, arith}
use Rattle.std.specs.Prelude.{Result, Ok, Err}
use Rattle.model_conf.specs.ModelText.{ModelParts}
use Rattle.outside.specs.Faults.{Rose}
use Rattle.perm_base.specs.declared.shapes.Shapes.{Shapes}
use Rattle.policy_state.specs.States.{State, tables}
use Rattle.policy_table.specs.Tables as table
use Rattle.run_status.specs.declared.stop.Stop.{Stop}
use Rattle.run_status.specs.declared.stop.Stop.TheVariants.{NoMemory}
use Rattle.regex_gate.specs.Refusals.{IsUsed, Refusals}
use Rattle.run_status.specs.Hits.{hits_line}
use Rattle.run_status.specs.Told.{IsTold}
use Rattle.script_read.specs.Said.{Said}
use Rattle.cached_work.specs.Helps.CacheSteps.{CachedAnswered, PrintedCached}
use Rattle.loaded_work.specs.Helps.TaskSteps.{IsOpened, PrintedSome}
use Rattle.loaded_work.specs.Sinks.{Taken}
use Rattle.loaded_work.specs.declared.loaded.Loaded.{Loaded}
use Rattle.loaded_work.proofs.CallerLemmas.{over_equal}

-- memory ran out before any answer was pushed
pub cached_memory : (IsSaid : List Said → Type 0) (model : ModelParts) (shapes : Shapes) (policy : table.Policy) (capacity : ℕ) (before : Refusals) (out err : Taken) → IsUsed before before → CachedAnswered IsSaid model shapes policy capacity before before out out err err (Err NoMemory)
cached_memory IsSaid model shapes policy capacity before out err used = record { printed = tt; stopped = inl (refl, refl); silent = refl; counted = omega arith; err_counted = omega arith; used = used }

module _ (IsSaid : List Said → Type 0) (model : ModelParts) (shapes : Shapes) (policy : table.Policy) (capacity : ℕ) (before now : Refusals) (out out_now err : Taken) where
  pub cached_stopped : (stop : Stop) → PrintedSome IsSaid model shapes policy before now out.bytes out_now.bytes (Rose out.faults out_now.faults) stop → out.faults ≤ out_now.faults → IsUsed before now → CachedAnswered IsSaid model shapes policy capacity before now out out_now err err (Err stop)
  cached_stopped stop some counted used = record { printed = tt; stopped = inr some; silent = refl; counted = counted; err_counted = omega arith; used = used }

  pub cached_ok : (size : ℕ) (err_now : Taken) (hits : ℕ) (u : Unit {0}) → size ≡ capacity → PrintedCached IsSaid model shapes policy before now out.bytes out_now.bytes size hits → IsTold err.bytes err_now.bytes err.faults err_now.faults (hits_line hits)
      → out.faults ≤ out_now.faults → IsUsed before now → CachedAnswered IsSaid model shapes policy capacity before now out out_now err err_now (Ok u)
  cached_ok size err_now hits u same all line counted used = record {
    printed = record { hits = hits; printed = subst (λ (n : ℕ). PrintedCached IsSaid model shapes policy before now out.bytes out_now.bytes n hits) same all; line = line };
    stopped = tt;
    silent = tt;
    counted = counted;
    err_counted = line.counted;
    used = used;
  }

-- over what was loaded
pub cached_over : (IsSaid : List Said → Type 0) (loaded : Loaded) (program : ModelParts) (state : State) (capacity : ℕ) (before now : Refusals) (out out_now err err_now : Taken) (result : Result (Unit {0}) Stop) → IsOpened loaded program state
    → CachedAnswered IsSaid program state.shapes (tables state) capacity before now out out_now err err_now result → CachedAnswered IsSaid loaded.model loaded.shapes loaded.tables.policy capacity before now out out_now err err_now result
cached_over IsSaid loaded program state capacity before now out out_now err err_now result is answered =
    over_equal (λ (m : ModelParts) (s : Shapes) (p : table.Policy). CachedAnswered IsSaid m s p capacity before now out out_now err err_now result) loaded.model program loaded.shapes state.shapes loaded.tables.policy (tables state) is.program_is is.shapes_are is.policy_is answered
