-- What a run that is done has printed of its files reads back.
use Rattle.std.proofs.Common.{◌≡◌, ◌≤◌, List, ℕ, length, sym, ap, subst, ◌∙◌}
use Rattle.std.specs.Prelude.{Some, flat_map}
use Rattle.model_conf.specs.ModelText.{IsModel, ModelParts, most_bytes}
use Rattle.model_conf.specs.Printed as model_text
use Rattle.outside.specs.Told.{with_back}
use Rattle.perm_base.specs.Shapes.{AreValid}
use Rattle.perm_base.specs.declared.shapes.Shapes.{Shapes}
use Rattle.policy_csv.specs.Policy.{IsPolicy}
use Rattle.policy_csv.specs.Printed as policy_text
use Rattle.policy_table.specs.Limits.{AreSound}
use Rattle.policy_table.specs.Tables.{Policy}
use Rattle.casbin_run.specs.Ends.{HasDone}
use Rattle.casbin_run.specs.Given.{Given}
use Rattle.casbin_run.specs.Jobs.{job_asked, shapes_with}
use Rattle.casbin_run.specs.Shown.{ReadsBack, WroteModel, WrotePolicy}
use Rattle.casbin_run.specs.Texts.{count_line, tables_of}
use Rattle.casbin_run.specs.Worlds.{World}
use Rattle.casbin_run.specs.Written.{Writes}
use Rattle.casbin_run.specs.declared.job.Job.{Job}
use Rattle.casbin_run.specs.declared.job.Task.{Task}
use Rattle.casbin_run.specs.declared.job.Task.TheVariants.{Check, Format}

same_job : {job other : Job} → Some job ≡ Some other → job ≡ other
same_job e = cc

module _ (g : Given) (before now : World) (job : Job) (done : HasDone g before now) (asked : job_asked g.words ≡ Some job) where
  same : done.all.answers.answered.in_order.job ≡ job
  same = same_job (sym done.all.answers.answered.in_order.asked ∙ asked)

  module _ (task : Task) (is : job.task ≡ task) where
    task_is : done.all.answers.answered.in_order.job.task ≡ task
    task_is = ap (λ (j : Job). j.task) same ∙ is

    wrote : let answers = done.all.answers in let order = answers.answered.in_order in
        Writes task order.model (shapes_with order.job.options order.model) order.policy order.items order.packets answers.refused answers.answered.pieces answers.text
    wrote = let answers = done.all.answers in let order = answers.answered.in_order in
        subst (λ (t : Task). Writes t order.model (shapes_with order.job.options order.model) order.policy order.items order.packets answers.refused answers.answered.pieces answers.text) task_is answers.answered.writes

    back : ReadsBack task done.all.answers.answered.in_order.model (shapes_with done.all.answers.answered.in_order.job.options done.all.answers.answered.in_order.model) done.all.answers.answered.in_order.policy
    back = let order = done.all.answers.answered.in_order in
        subst (λ (t : Task). ReadsBack t order.model (shapes_with order.job.options order.model) order.policy) task_is done.back

  pub wrote_policy : job.task ≡ Format → WrotePolicy g job before.out.bytes now.out.bytes
  wrote_policy is = let order = done.all.answers.answered.in_order in
      subst (λ (j : Job). WrotePolicy g j before.out.bytes now.out.bytes) same
      (record { model = order.model; policy = order.policy; are_files = order.are_files; text = policy_text.printed order.policy; took = done.all.took ∙ ap (with_back before.out.bytes) (wrote Format is).is; says = back Format is })

  pub wrote_model : job.task ≡ Check → WroteModel g job before.out.bytes now.out.bytes
  wrote_model is = let order = done.all.answers.answered.in_order in
      subst (λ (j : Job). WroteModel g j before.out.bytes now.out.bytes) same
      (record {
        model = order.model;
        policy = order.policy;
        are_files = order.are_files;
        front = model_text.printed order.model;
        rest = flat_map (count_line order.policy) (tables_of order.model);
        took = done.all.took ∙ ap (with_back before.out.bytes) (wrote Check is).is;
        says = back Check is;
      })

-- what the printers say of their texts
pub back_of_model : (parts : ModelParts) (text : List ℕ) → text ≡ model_text.printed parts → (length text ≤ most_bytes → IsModel text parts) → length (model_text.printed parts) ≤ most_bytes → IsModel (model_text.printed parts) parts
back_of_model parts text is back = subst (λ (t : List ℕ). length t ≤ most_bytes → IsModel t parts) is back

pub back_of_policy : (shapes : Shapes) (tables : Policy) (text : List ℕ) → text ≡ policy_text.printed tables → ((others : Shapes) → AreValid others → AreSound others tables → IsPolicy others text tables) → AreValid shapes → AreSound shapes tables → IsPolicy shapes (policy_text.printed tables) tables
back_of_policy shapes tables text is back valid sound = subst (λ (t : List ℕ). IsPolicy shapes t tables) is (back shapes valid sound)
