-- The lines of a whole script that is answered at a desk, and what the finder refused for its items.
use Rattle.std.specs.Prelude.{◌≡◌, ℕ, List}
use Rattle.answer_lines.specs.declared.answer.Line.{Line}
use Rattle.model_conf.specs.ModelText.{ModelParts}
use Rattle.perm_base.specs.declared.shapes.Shapes.{Shapes}
use Rattle.policy_table.specs.Tables.{Policy}
use Rattle.regex_gate.specs.Refusals.{Refusals, after_refusals}
use Rattle.script_read.specs.Said.{Said}
use Rattle.session_meaning.specs.Plain.{IsPlain, all_refused}

-- these are the lines of the items, and what was refused for one item after the other is all that the finder refused
pub record AreScriptLines (model : ModelParts) (shapes : Shapes) (opening : Policy) (before now : Refusals) (items : List Said) (lines : List Line) : Type 0 where
  pub refused : List (List (List ℕ))
  pub plain : IsPlain model shapes opening items refused lines
  pub logged : now ≡ after_refusals before (all_refused refused)
