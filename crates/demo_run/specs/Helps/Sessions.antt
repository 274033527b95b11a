-- The demonstration's session before its first item, and its lines.
use Rattle.std.specs.Prelude.{◌≡◌, ℕ, List, [], None, false, length}
use Rattle.answer_lines.specs.declared.answer.Line.{Line}
use Rattle.decision.specs.Programs.{Suits}
use Rattle.demo_run.specs.Demo.{AreLinesWith}
use Rattle.demo_run.specs.DemoTexts.{model_text, policy_text, script_text}
use Rattle.demo_run.specs.Summary.{counted}
use Rattle.demo_run.specs.declared.counts.Tally.{Tally}
use Rattle.model_conf.specs.ModelText.{IsModel, ModelParts}
use Rattle.model_conf.specs.Shapes.{shapes_of}
use Rattle.perm_base.specs.declared.shapes.Shapes.{Shapes}
use Rattle.policy_csv.specs.Policy.{IsPolicy}
use Rattle.policy_desk.specs.Desks.{Work}
use Rattle.policy_state.specs.States.{tables}
use Rattle.policy_table.specs.Tables.{Policy}
use Rattle.script_read.specs.Said.{Said}
use Rattle.script_read.specs.Script.{IsScript}
use Rattle.version_log.specs.Log.{versions}

-- the program is the model's, the desk is over the policy at version 0, and the text is that of the demonstration's script
pub record IsSession (count : ℕ) (program : ModelParts) (desk : Work) (script : List ℕ) : Type 0 where
  pub is_model : IsModel model_text program
  pub shapes_are : desk.state.shapes ≡ shapes_of program [] [] 10
  pub is_policy : IsPolicy (shapes_of program [] [] 10) (policy_text count) (tables desk.state)
  pub is_script : script ≡ script_text count
  pub suits : Suits program desk.state.shapes
  pub opening : versions desk.state.log ≡ 0
  pub none_pending : desk.pending ≡ []
  pub keeps_all : desk.kept ≡ None

-- the desk is over the demonstration's policy at version 0
pub record IsFirstDesk (count : ℕ) (shapes : Shapes) (desk : Work) : Type 0 where
  pub shapes_are : desk.state.shapes ≡ shapes
  pub is_policy : IsPolicy shapes (policy_text count) (tables desk.state)
  pub opening : versions desk.state.log ≡ 0
  pub none_pending : desk.pending ≡ []
  pub keeps_all : desk.kept ≡ None

-- so lines of a script are counted, where something was refused for its items
pub record HasTally (workers : ℕ) (model : ModelParts) (shapes : Shapes) (policy : Policy) (script : List ℕ) (tally : Tally) : Type 0 where
  pub items : List Said
  pub refused : List (List (List ℕ))
  pub lines : List Line
  pub says : IsScript false script items
  pub are : AreLinesWith workers model shapes policy items refused lines
  pub items_are : tally.items ≡ length lines
  pub counts_are : tally.counts ≡ counted lines
