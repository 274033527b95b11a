-- What a run makes of the outside: one record of all that is seen of it before and behind.
use Rattle.std.specs.Prelude.{◌≡◌, ◌≤◌, ℕ, true, false, List, [], Option, IfSome, drop}
use Rattle.outside.specs.Ends.{IsEndedOnce, ends_after}
use Rattle.outside.specs.Files.{Files}
use Rattle.run_status.specs.declared.status.Status.{Status}
use Rattle.casbin_run.specs.Demos.{EndsAs, some_workers}
use Rattle.casbin_run.specs.Ends.{has_read, may_write}
use Rattle.casbin_run.specs.Finders.{AreUsed}
use Rattle.casbin_run.specs.Given.{given}
use Rattle.casbin_run.specs.Jobs.{ask_for_input}
use Rattle.loaded_work.specs.Sinks.{Taken}
use Rattle.casbin_run.specs.Worlds.{World}

-- all that is seen at one moment: the world that a run is judged by, the files, what `err` took, the finders themselves, and how
-- often a place was refused
pub record Moment (X : Type 0) : Type 0 where
  pub world : World
  pub files : Option Files
  pub err : Taken
  pub lent : List X
  pub places : ℕ

abbrev pub moment : {X : Type 0} → World → Option Files → Taken → List X → ℕ → Moment X
moment world files err lent places = record { world = world; files = files; err = err; lent = lent; places = places }

-- a run of these words that has this status makes of the one moment the other. How it ends, by its status: with Done `out` took the text that answers what was given, and `err` nothing but, with a cache, the
-- line of its hits; with another it had its cause, and `err` took its line. Each file is fetched once at most, the model's first;
-- where the run stops before its task, nothing was asked of the input. With the statuses of words and files nothing goes to `out`.
-- The input is read to its end and no further, or not at all, unless it is too long, a read fails or memory runs out.
-- The files stay, and no count falls.
-- Where no workers answer, the first finder alone is asked, and none where nothing may go to `out`.
pub record Runs {X : Type 0} (words : List (List ℕ)) (before now : Moment X) (status : Status) : Type 0 where
  pub ends : EndsAs (given words before.files before.world.input.left) before.world now.world before.err now.err status
  pub quiet : may_write status ≡ false → now.world.out.bytes ≡ before.world.out.bytes
  pub read_to_end : has_read status ≡ true → ask_for_input words ≡ true → IfSome now.world.input.left (λ (rest : List ℕ). rest ≡ [])
  pub ended : has_read status ≡ true → ask_for_input words ≡ true → now.world.input.ends ≡ ends_after before.world.input.ends true
  pub no_further : IsEndedOnce before.world.input.ends now.world.input.ends
  pub unread : ask_for_input words ≡ false → now.world.input ≡ before.world.input
  pub same_files : now.files ≡ before.files
  pub shelf_counted : before.world.shelf.faults ≤ now.world.shelf.faults
  pub input_counted : before.world.input.faults ≤ now.world.input.faults
  pub out_counted : before.world.out.faults ≤ now.world.out.faults
  pub err_counted : before.err.faults ≤ now.err.faults
  pub places_counted : before.places ≤ now.places
  pub finders : AreUsed (some_workers words) before.world.finders now.world.finders
  pub others : some_workers words ≡ false → drop 1 now.lent ≡ drop 1 before.lent
  pub idle : may_write status ≡ false → now.lent ≡ before.lent
