-- What is printed of a model or a policy reads back as it.
use Rattle.std.specs.Prelude.{◌≡◌, ℕ, ◌≤◌, List, ◌++◌, Option, codes, length, ⊤}
use Rattle.model_conf.specs.ModelText.{IsModel, ModelParts, most_bytes}
use Rattle.model_conf.specs.Printed as model_text
use Rattle.outside.specs.Told.{with_back}
use Rattle.perm_base.specs.declared.shapes.Shapes.{Shapes}
use Rattle.policy_csv.specs.Policy.{IsPolicy}
use Rattle.policy_csv.specs.Printed as policy_text
use Rattle.policy_table.specs.Tables as table
use Rattle.casbin_run.specs.Given.{AreFiles, Given}
use Rattle.casbin_run.specs.Jobs.{shapes_with}
use Rattle.casbin_run.specs.declared.job.Job.{Job}
use Rattle.casbin_run.specs.declared.job.Task.{Task}
use Rattle.casbin_run.specs.declared.job.Task.TheVariants.{Enforce, Cached, Explain, Serve, Share, Check, Format, Implicit, Report, Ship, Follow}

-- the model that `check` prints is read back, unless its text is longer than a model may be; the policy that `format` prints is
abbrev pub ReadsBack : Task → ModelParts → Shapes → table.Policy → Type 0
ReadsBack (Enforce json) parts shapes tables = ⊤
ReadsBack (Cached json capacity) parts shapes tables = ⊤
ReadsBack (Explain json most) parts shapes tables = ⊤
ReadsBack (Serve json) parts shapes tables = ⊤
ReadsBack (Share json workers) parts shapes tables = ⊤
ReadsBack (Implicit subject) parts shapes tables = ⊤
ReadsBack Report parts shapes tables = ⊤
ReadsBack Ship parts shapes tables = ⊤
ReadsBack Follow parts shapes tables = ⊤
ReadsBack Check parts shapes tables = length (model_text.printed parts) ≤ most_bytes → IsModel (model_text.printed parts) parts
ReadsBack Format parts shapes tables = IsPolicy shapes (policy_text.printed tables) tables

-- what was taken says the policy that the job's file says, of the same shapes
pub record WrotePolicy (g : Given) (job : Job) (before now : Option (List ℕ)) : Type 0 where
  pub model : ModelParts
  pub policy : table.Policy
  pub are_files : AreFiles g.files job model policy
  pub text : List ℕ
  pub took : now ≡ with_back before text
  pub says : IsPolicy (shapes_with job.options model) text policy

-- what was taken says in front of an empty line the model that the job's file says, unless it is longer there than a model may be
pub record WroteModel (g : Given) (job : Job) (before now : Option (List ℕ)) : Type 0 where
  pub model : ModelParts
  pub policy : table.Policy
  pub are_files : AreFiles g.files job model policy
  pub front : List ℕ
  pub rest : List ℕ
  pub took : now ≡ with_back before (front ++ codes "\n" ++ rest)
  pub says : length front ≤ most_bytes → IsModel front model
