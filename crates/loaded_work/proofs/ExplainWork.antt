-- What explaining requests comes to.
use Rattle.std.proofs.Common.{ℕ, ◌≤◌, List, Err, inl, inr, refl, arith}
use Rattle.std.specs.Prelude.{IfErr, OnOk, Result}
use Rattle.std.proofs.lemmas.Result.{IfErr-weaker}
use Rattle.model_conf.specs.ModelText.{ModelParts}
use Rattle.outside.specs.Faults.{Rose}
use Rattle.perm_base.specs.declared.shapes.Shapes.{Shapes}
use Rattle.policy_state.specs.States.{State, tables}
use Rattle.policy_table.specs.Tables as table
use Rattle.regex_gate.specs.Refusals.{IsUsed, Refusals}
use Rattle.run_status.specs.declared.stop.Stop.{Stop}
use Rattle.run_status.specs.declared.stop.Stop.TheVariants.{NoMemory}
use Rattle.script_read.specs.Said.{Said}
use Rattle.loaded_work.specs.Helps.ExplainedLines.{AreExplained, ExplainedAll, ExplainedSome}
use Rattle.loaded_work.specs.Helps.TaskSteps.{IsOpened}
use Rattle.loaded_work.specs.Sinks.{Taken}
use Rattle.loaded_work.specs.declared.loaded.Loaded.{Loaded}
use Rattle.loaded_work.proofs.WorkLemmas.{over_equal}

-- memory ran out before any piece was pushed
pub explain_memory : (IsSaid : List Said → Type 0) (most : ℕ) (model : ModelParts) (shapes : Shapes) (policy : table.Policy) (before : Refusals) (out : Taken) → IsUsed before before → AreExplained IsSaid most model shapes policy before before out out (Err NoMemory)
explain_memory IsSaid most model shapes policy before out used = record { printed = tt; stopped = inl (refl, refl); counted = omega arith; used = used }

pub explain_ends : (IsSaid : List Said → Type 0) (most : ℕ) (model : ModelParts) (shapes : Shapes) (policy : table.Policy) (before now : Refusals) (out out_now : Taken) (result : Result (Unit {0}) Stop) → OnOk result (ExplainedAll IsSaid most model shapes policy before now out.bytes out_now.bytes)
    → IfErr result (ExplainedSome IsSaid most model shapes policy before now out.bytes out_now.bytes (Rose out.faults out_now.faults)) → out.faults ≤ out_now.faults → IsUsed before now → AreExplained IsSaid most model shapes policy before now out out_now result
explain_ends IsSaid most model shapes policy before now out out_now result all some counted used = record { printed = all; stopped = IfErr-weaker result _ _ (λ stop stops. inr stops) some; counted = counted; used = used }

-- over what was loaded
pub explain_over : (IsSaid : List Said → Type 0) (loaded : Loaded) (program : ModelParts) (state : State) (most : ℕ) (before now : Refusals) (out out_now : Taken) (result : Result (Unit {0}) Stop) → IsOpened loaded program state
    → AreExplained IsSaid most program state.shapes (tables state) before now out out_now result → AreExplained IsSaid most loaded.model loaded.shapes loaded.tables.policy before now out out_now result
explain_over IsSaid loaded program state most before now out out_now result is explained =
    over_equal (λ (m : ModelParts) (s : Shapes) (p : table.Policy). AreExplained IsSaid most m s p before now out out_now result) loaded.model program loaded.shapes state.shapes loaded.tables.policy (tables state) is.program_is is.shapes_are is.policy_is explained
