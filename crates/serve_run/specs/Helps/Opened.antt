-- What the files of a run are opened to.
use Rattle.std.specs.Prelude.{◌≡◌, length, Option}
use Rattle.command_words.specs.FileNames.{FileNames}
use Rattle.command_words.specs.declared.command.Options.{Options}
use Rattle.decision.specs.Programs.{Suits}
use Rattle.loaded_work.specs.Helps.TaskSteps as work
use Rattle.loaded_work.specs.declared.loaded.Loaded.{Loaded}
use Rattle.outside.specs.Files.{Files}
use Rattle.perm_base.specs.declared.shapes.TableId.TheVariants.{P}
use Rattle.policy_state.specs.States.{tables}
use Rattle.policy_table.specs.Tables.{rows}
use Rattle.version_log.specs.Log.{versions}
use Rattle.run_files.specs.Files.{AreFiles, shapes_with}
use Rattle.serve_run.specs.declared.opened.OpenedFiles.{OpenedFiles}

-- the program of what was loaded, and its state; and how many rules p has
pub record IsMade (loaded : Loaded) (opened : OpenedFiles) : Type 0 where
  pub is_opened : work.IsOpened loaded opened.program opened.state
  pub rules_are : opened.rules ≡ length (rows loaded.tables.policy P)

-- the program of the model's file, and the state of the policy's, with no edit yet; and how many rules p has there
pub record IsOpened (files : Option Files) (names : FileNames) (options : Option Options) (opened : OpenedFiles) : Type 0 where
  pub are_files : AreFiles files names options opened.program (tables opened.state)
  pub shapes_are : opened.state.shapes ≡ shapes_with options opened.program
  pub suits : Suits opened.program opened.state.shapes
  pub opening : versions opened.state.log ≡ 0
  pub rules_are : opened.rules ≡ length (rows (tables opened.state) P)
