-- What the demonstration writes: the summary of its session, done on one thread or with workers.
use Rattle.std.specs.Prelude.{◌≡◌, ◌==◌, ℕ, MatchBool, List, [], false}
use Rattle.answer_lines.specs.declared.answer.Line.{Line}
use Rattle.demo_run.specs.DemoTexts.{model_text, policy_text, script_text}
use Rattle.demo_run.specs.Summary.{summary}
use Rattle.model_conf.specs.ModelText.{IsModel, ModelParts}
use Rattle.model_conf.specs.Shapes.{shapes_of}
use Rattle.perm_base.specs.declared.shapes.Shapes.{Shapes}
use Rattle.policy_csv.specs.Policy.{IsPolicy}
use Rattle.policy_table.specs.Tables.{Policy}
use Rattle.script_read.specs.Said.{Said}
use Rattle.script_read.specs.Script.{IsScript}
use Rattle.session_meaning.specs.Plain.{IsPlain}
use Rattle.session_meaning.specs.Rounds.{IsShared}

-- the lines of the items with so many workers, or on one thread where there are none
abbrev pub AreLinesWith : ℕ → ModelParts → Shapes → Policy → List Said → List (List (List ℕ)) → List Line → Type 0
AreLinesWith workers model shapes policy items refused lines = MatchBool (workers == 0) (IsPlain model shapes policy items refused lines) (IsShared model shapes policy workers items refused lines)

-- the text is the summary of lines of the demonstration's script over its policy, by its model
pub record IsDemo (count workers : ℕ) (text : List ℕ) : Type 0 where
  pub model : ModelParts
  pub policy : Policy
  pub items : List Said
  pub refused : List (List (List ℕ))
  pub lines : List Line
  pub is_model : IsModel model_text model
  pub is_policy : IsPolicy (shapes_of model [] [] 10) (policy_text count) policy
  pub is_script : IsScript false (script_text count) items
  pub are_lines : AreLinesWith workers model (shapes_of model [] [] 10) policy items refused lines
  pub text_is : text ≡ summary count lines
