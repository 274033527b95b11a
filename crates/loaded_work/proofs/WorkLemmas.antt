-- Lines that were pushed, over what was loaded.
use Rattle.std.proofs.Common.{◌≡◌, ℕ, ◌≤◌, List, inl, inr, refl, sym, ap, subst, ◌∙◌, true, arith}
use Rattle.std.specs.Prelude.{Option, Result, Err, IfErr, IfSome, OnOk, length, map, take}
use Rattle.std.proofs.lemmas.List.{take-map}
use Rattle.std.proofs.lemmas.List.Folds.{flat_map-map}
use Rattle.std.proofs.lemmas.Result.{IfErr-weaker, on_ok_weaker}
use Rattle.answer_lines.specs.LineText.{line_text}
use Rattle.answer_lines.specs.declared.answer.Line.{Line}
use Rattle.decision.proofs.CallerLemmas.{suits_columns}
use Rattle.decision.specs.Programs.{Suits}
use Rattle.policy_index.specs.Keys.{KeyParts, is_below}
use Rattle.desk_session.specs.Scripts.{AreScriptLines}
use Rattle.model_conf.specs.ModelText.{ModelParts}
use Rattle.outside.specs.Faults.{Rose}
use Rattle.outside.specs.Told.{with_back}
use Rattle.perm_base.specs.declared.shapes.Shapes.{Shapes}
use Rattle.policy_csv.specs.Printed.{printed}
use Rattle.policy_table.specs.Tables as table
use Rattle.regex_gate.specs.Refusals.{IsUsed, Refusals}
use Rattle.run_status.specs.declared.stop.Stop.{Stop}
use Rattle.run_status.specs.declared.stop.Stop.TheVariants.{NoMemory}
use Rattle.script_read.specs.Said.{Said}
use Rattle.loaded_work.specs.Finders.{HasRefused}
use Rattle.loaded_work.specs.Helps.TaskSteps.{AreAnswered, LinesOf, LinesStop, PrintedAll, PrintedSome}
use Rattle.loaded_work.specs.Texts.{joined, text_of_lines}
use Rattle.loaded_work.specs.Sinks.{Taken}
use Rattle.loaded_work.specs.declared.loaded.Loaded.{Loaded}

-- what holds over equal models, shapes and policies
pub over_equal : (Holds : ModelParts → Shapes → table.Policy → Type 0) (model other : ModelParts) (shapes others : Shapes) (policy second : table.Policy) → other ≡ model → others ≡ shapes → second ≡ policy → Holds other others second → Holds model shapes policy
over_equal Holds model other shapes others policy second same-model same-shapes same-policy holds =
    subst (λ (m : ModelParts). Holds m shapes policy) same-model
    (subst (λ (s : Shapes). Holds other s policy) same-shapes (subst (λ (p : table.Policy). Holds other others p) same-policy holds))

module _ (IsSaid : List Said → Type 0) (model : ModelParts) (shapes : Shapes) (policy : table.Policy) (before now : Refusals) where
  -- lines of items that are said, and how far they were pushed
  module _ (items : List Said) (lines : List Line) (says : IsSaid items) (are : AreScriptLines model shapes policy before now items lines) (out out_now : Option (List ℕ)) where
    abbrev lines_said : LinesOf IsSaid model shapes policy (HasRefused before now)
    lines_said = record { items = items; lines = lines; refused = are.refused; says = says; plain = are.plain; logged = are.logged }

    pub said_all : out_now ≡ with_back out (text_of_lines lines) → PrintedAll IsSaid model shapes policy before now out out_now
    said_all took = record { printed = lines_said; took = took }

    pub said_some : (out_rose : Type 0) (stop : Stop) → LinesStop out out_now lines out_rose stop → PrintedSome IsSaid model shapes policy before now out out_now out_rose stop
    said_some out_rose stop stops = record { printed = lines_said; stops = stops }

  -- answers over what was loaded, where this is its model, its shapes and its policy
  pub answers_over : (loaded : Loaded) (out out_now : Taken) (result : Result (Unit {0}) Stop) → model ≡ loaded.model → shapes ≡ loaded.shapes → policy ≡ loaded.tables.policy
      → OnOk result (PrintedAll IsSaid model shapes policy before now out.bytes out_now.bytes) → IfErr result (PrintedSome IsSaid model shapes policy before now out.bytes out_now.bytes (Rose out.faults out_now.faults))
      → out.faults ≤ out_now.faults → IsUsed before now → AreAnswered IsSaid loaded before now out out_now result
  answers_over loaded out out_now result same-model same-shapes same-policy all some counted used = record {
    printed = on_ok_weaker result (over_equal (λ (m : ModelParts) (s : Shapes) (p : table.Policy). PrintedAll IsSaid m s p before now out.bytes out_now.bytes) loaded.model model loaded.shapes shapes loaded.tables.policy policy same-model same-shapes same-policy) all;
    stopped = IfErr-weaker result _ _ (λ stop stops. inr (over_equal (λ (m : ModelParts) (s : Shapes) (p : table.Policy). PrintedSome IsSaid m s p before now out.bytes out_now.bytes (Rose out.faults out_now.faults) stop) loaded.model model loaded.shapes shapes loaded.tables.policy policy same-model same-shapes same-policy stops)) some;
    counted = counted;
    used = used;
  }

-- memory ran out before any answer was pushed
pub out_of_memory : (IsSaid : List Said → Type 0) (loaded : Loaded) (before now : Refusals) (out : Taken) → IsUsed before now → AreAnswered IsSaid loaded before now out out (Err NoMemory)
out_of_memory IsSaid loaded before now out used = record { printed = tt; stopped = inl (refl, refl); counted = omega arith; used = used }

-- the first lines, as pieces
pub first_lines : (count : ℕ) (lines : List Line) → text_of_lines (take count lines) ≡ joined (take count (map line_text lines))
first_lines count lines = sym (ap joined (take-map line_text count lines) ∙ flat_map-map (λ (piece : List ℕ). piece) line_text (take count lines))

-- ---- making a policy's state

-- the columns of a program's key are those of shapes that suit its model
pub key_fits : (model program : ModelParts) (shapes : Shapes) (key : Option KeyParts) → program ≡ model → Suits model shapes → IfSome key (λ (key : KeyParts). is_below (length program.policy) key ≡ true) → IfSome key (λ (key : KeyParts). is_below shapes.columns key ≡ true)
key_fits model program shapes key same suits within =
    let columns : length program.policy ≡ shapes.columns = ap (λ (m : ModelParts). length m.policy) same ∙ sym (suits_columns model shapes suits) in
    subst (λ (n : ℕ). IfSome key (λ (key : KeyParts). is_below n key ≡ true)) columns within
