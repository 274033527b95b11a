-- What files that were loaded are opened to.
use Rattle.std.proofs.Common.{length, sym, ap, subst, ◌∙◌}
use Rattle.std.specs.Prelude.{Option}
use Rattle.command_words.specs.FileNames.{FileNames}
use Rattle.command_words.specs.declared.command.Options.{Options}
use Rattle.loaded_work.specs.declared.loaded.Loaded.{Loaded}
use Rattle.model_conf.specs.ModelText.{ModelParts}
use Rattle.outside.specs.Files.{Files}
use Rattle.perm_base.specs.declared.shapes.TableId.TheVariants.{P}
use Rattle.policy_state.specs.States.{tables}
use Rattle.policy_table.specs.Tables.{Policy, rows}
use Rattle.run_files.specs.Files.{AreFiles, shapes_with}
use Rattle.run_files.specs.Loads.{IsLoaded}
use Rattle.serve_run.specs.Helps.Opened.{IsMade, IsOpened}
use Rattle.serve_run.specs.declared.opened.OpenedFiles.{OpenedFiles}

pub opened_is : (files : Option Files) (names : FileNames) (options : Option Options) (loaded : Loaded) (opened : OpenedFiles) → IsLoaded files names options loaded → IsMade loaded opened → IsOpened files names options opened
opened_is files names options loaded opened is made =
    let so = made.is_opened in
    record {
      are_files = subst (λ (m : ModelParts). AreFiles files names options m (tables opened.state)) (sym so.program_is)
          (subst (λ (p : Policy). AreFiles files names options loaded.model p) (sym so.policy_is) is.are_files);
      shapes_are = so.shapes_are ∙ is.shapes_are ∙ ap (λ (m : ModelParts). shapes_with options m) (sym so.program_is);
      suits = so.suits;
      opening = so.opening;
      rules_are = made.rules_are ∙ ap (λ (p : Policy). length (rows p P)) (sym so.policy_is);
    }
