-- How the stops of the parts of a run are stops of the run.
use Rattle.std.proofs.Common.{◌≡◌, ℕ, ◌≤◌, Bool, true, false, true≢false, List, [], ◌∷◌, inl, inr, ⊎_elim, refl, sym, ap, subst, ◌∙◌, arith}
use Rattle.std.specs.Prelude.{◌⊎◌, Some, None, Result, Ok, Err, OnOk}
use Rattle.outside.specs.Files.{Lacks}
use Rattle.outside.specs.Log.{Adds, call}
use Rattle.perm_base.specs.declared.shapes.Shapes.{Shapes}
use Rattle.regex_gate.specs.Refusals.{Refusals}
use Rattle.run_status.proofs.CallerLemmas.{is_never_done}
use Rattle.run_status.specs.Messages.{line_of}
use Rattle.run_status.specs.Statuses.{status_of}
use Rattle.run_status.specs.Told.{IsTold}
use Rattle.run_status.specs.declared.status.Status.{Status}
use Rattle.run_status.specs.declared.status.Status.TheVariants as statuses
use Rattle.run_status.specs.declared.part.Part.TheVariants.{Model, Policy, Input, Report}
use Rattle.run_status.specs.declared.stop.Stop.{Stop}
use Rattle.run_status.specs.declared.stop.Stop.TheVariants.{Words, NoModel, NoRelation, NoPolicy, NoScript, NoPackets, CannotRead, CannotWrite, TooLong, NoMemory}
use Rattle.casbin_run.specs.Answered.{Answers, TookAll, TookFirst, TookSome}
use Rattle.casbin_run.specs.Causes.{EndsBy, FailsAt, StopsAt, is_of_shelf}
use Rattle.casbin_run.specs.Ends.{Ends, IsDone, has_read}
use Rattle.casbin_run.specs.Finders.{AreUsed, Logs}
use Rattle.casbin_run.specs.Given.{Given}
use Rattle.casbin_run.specs.Helps.Loads.{IsLoaded, LoadStops}
use Rattle.casbin_run.specs.Helps.TaskRuns.{ComesTo}
use Rattle.casbin_run.specs.Helps.Tasks.{DidAll, DidFirst, DidSome, WorkStops, Worked, ground}
use Rattle.casbin_run.specs.Jobs.{ask_for_workers, has_workers, job_asked, reads_input}
use Rattle.casbin_run.specs.Shown.{ReadsBack}
use Rattle.casbin_run.specs.Reached.{HasAsked, IsReached, Reached, at_words, at_model, at_options, at_policy, at_task, fetches_to}
use Rattle.casbin_run.specs.Worlds.{InputRose, OutRose, Pulled, ShelfRose, World}
use Rattle.loaded_work.specs.Sinks.{Taken}
use Rattle.casbin_run.specs.Written.{HasRoom, IsTooLong, Tells, Writes}
use Rattle.loaded_work.specs.declared.loaded.Loaded.{Loaded}
use Rattle.casbin_run.specs.declared.job.Job.{Job}
use Rattle.casbin_run.proofs.EarlyLemmas.{load_early}
use Rattle.casbin_run.proofs.FinderLemmas.{finders_same}

module _ (g : Given) (before now : World) where
  -- where no task was reached, the input is untouched
  asked_early : (reached : Reached) (failed : Bool) → Adds before.shelf.calls now.shelf.calls (fetches_to reached failed) → now.input ≡ before.input → HasAsked before now reached failed
  asked_early reached failed told still = record { fetched = told; unread = λ none. still }

  given_stops : (stop : Stop) (reached : Reached) → IsReached g reached → StopsAt g reached stop → HasAsked before now reached false → EndsBy g before now stop
  given_stops stop reached is stops asked = record { reached = reached; is_reached = is; why = inl (stops, asked) }

  outside_stops : (stop : Stop) (reached : Reached) → IsReached g reached → FailsAt g before now reached stop → HasAsked before now reached (is_of_shelf stop) → EndsBy g before now stop
  outside_stops stop reached is fails asked = record { reached = reached; is_reached = is; why = inr (fails, asked) }

pub words_end : (g : Given) (before now : World) → job_asked g.words ≡ None → Adds before.shelf.calls now.shelf.calls [] → now.input ≡ before.input → EndsBy g before now Words
words_end g before now none told still = given_stops g before now Words at_words tt none (asked_early g before now at_words false told still)

-- memory ran out at the words
pub memory_end : (g : Given) (before now : World) → now.out.bytes ≡ before.out.bytes → Adds before.shelf.calls now.shelf.calls [] → now.input ≡ before.input → EndsBy g before now NoMemory
memory_end g before now same told still = outside_stops g before now NoMemory at_words tt same (asked_early g before now at_words false told still)

module _ (g : Given) (before now : World) (job : Job) (asked : job_asked g.words ≡ Some job) where
  module _ (same : now.out.bytes ≡ before.out.bytes) (still : now.input ≡ before.input) where
    -- the file is not there, or the shelf failed
    lost_ends : (stop : Stop) (reached : Reached) (Lacking : Type 0) → IsReached g reached → (Lacking → StopsAt g reached stop) → (ShelfRose before now → FailsAt g before now reached stop) → is_of_shelf stop ≡ true
        → (Lacking × Adds before.shelf.calls now.shelf.calls (fetches_to reached false)) ⊎ (ShelfRose before now × Adds before.shelf.calls now.shelf.calls (fetches_to reached true)) → EndsBy g before now stop
    lost_ends stop reached Lacking is lacking failing of lost =
        ⊎_elim (λ lacks. given_stops g before now stop reached is (lacking lacks.0) (asked_early g before now reached false lacks.1 still))
        (λ rose. outside_stops g before now stop reached is (failing rose.0) (subst (λ (failed : Bool). HasAsked before now reached failed) (sym of) (asked_early g before now reached true rose.1 still))) lost

    file_ends : (stop : Stop) (reached : Reached) → IsReached g reached → StopsAt g reached stop × Adds before.shelf.calls now.shelf.calls (fetches_to reached false) → EndsBy g before now stop
    file_ends stop reached is stops = given_stops g before now stop reached is stops.0 (asked_early g before now reached false stops.1 still)

    pub load_ends : (stop : Stop) → LoadStops g.files job (Adds before.shelf.calls now.shelf.calls) (ShelfRose before now) stop → EndsBy g before now stop
    load_ends (CannotRead Model) stops = lost_ends (CannotRead Model) (at_model job) (Lacks g.files job.files.model) asked (λ lacks. lacks) (λ rose. rose) refl stops
    load_ends (TooLong Model) stops = file_ends (TooLong Model) (at_model job) asked stops
    load_ends (NoModel fault) stops = file_ends (NoModel fault) (at_model job) asked stops
    load_ends (NoRelation relation) (model, is, stops) = file_ends (NoRelation relation) (at_options job model) (asked, is) stops
    load_ends (CannotRead Policy) (model, fits, stops) = lost_ends (CannotRead Policy) (at_policy job model) (Lacks g.files job.files.policy) (asked, fits) (λ lacks. lacks) (λ rose. rose) refl stops
    load_ends (TooLong Policy) (model, fits, stops) = file_ends (TooLong Policy) (at_policy job model) (asked, fits) stops
    load_ends (NoPolicy fault) (model, fits, stops) = file_ends (NoPolicy fault) (at_policy job model) (asked, fits) stops
    load_ends NoMemory stops =
        ⊎_elim (λ told. outside_stops g before now NoMemory (at_model job) asked same (asked_early g before now (at_model job) false told still))
        (λ later. outside_stops g before now NoMemory (at_policy job later.0) (asked, later.1) same (asked_early g before now (at_policy job later.0) false later.2 still)) stops
    load_ends _ stops = absurd stops

  module _ (loaded : Loaded) (is : IsLoaded g.files job loaded) where
    answers_of : Worked (ground job.task loaded g.input) (Logs (has_workers job.task) before.finders now.finders) → Answers g before now
    answers_of worked = record {
      text = worked.text;
      refused = worked.refused;
      answered = record {
        in_order = record {
          job = job;
          model = loaded.model;
          policy = loaded.tables.policy;
          items = worked.items;
          packets = worked.packets;
          asked = asked;
          are_files = is.are_files;
          says = worked.says;
          carries = worked.carries;
          room = subst (λ (shapes : Shapes). HasRoom job.task shapes loaded.tables.policy) is.shapes_are worked.room;
        };
        pieces = worked.pieces;
        writes = subst (λ (shapes : Shapes). Writes job.task loaded.model shapes loaded.tables.policy worked.items worked.packets worked.refused worked.pieces worked.text) is.shapes_are worked.writes;
      };
      logged = worked.logged;
    }

    took_some : DidSome (ground job.task loaded g.input) (Logs (has_workers job.task) before.finders now.finders) before.out.bytes now.out.bytes → TookSome g before now
    unfolding answers_of
    took_some some = record { answers = answers_of some.worked; took = some.took }

    took_first : DidFirst (ground job.task loaded g.input) (Logs (has_workers job.task) before.finders now.finders) before.out.bytes now.out.bytes → TookFirst g before now
    unfolding answers_of
    took_first first = record { answers = answers_of first.worked; count = first.count; took = first.took }

    took_all : (err err_now : Taken) → DidAll (ground job.task loaded g.input) (Logs (has_workers job.task) before.finders now.finders) before.out.bytes now.out.bytes err err_now → TookAll g before now
    unfolding answers_of
    took_all err err_now all = record { answers = answers_of all.worked; took = all.took }

    module _ (told : Adds before.shelf.calls now.shelf.calls (call job.files.model false ∷ call job.files.policy false ∷ [])) (unread : reads_input job.task ≡ false → now.input ≡ before.input) where
      abbrev here : Reached
      here = at_task job loaded.model loaded.tables.policy

      task_asked : HasAsked before now here false
      task_asked = record { fetched = told; unread = unread }

      pub all_done : (err err_now : Taken) → DidAll (ground job.task loaded g.input) (Logs (has_workers job.task) before.finders now.finders) before.out.bytes now.out.bytes err err_now → ReadsBack job.task loaded.model loaded.shapes loaded.tables.policy → IsDone g before now err err_now
      unfolding took_all answers_of
      all_done err err_now all back = record {
        done = record {
          all = took_all err err_now all;
          fetched = (job, asked, told);
          back = subst (λ (shapes : Shapes). ReadsBack job.task loaded.model shapes loaded.tables.policy) is.shapes_are back;
        };
        told = subst (λ (shapes : Shapes). Tells job.task loaded.model shapes loaded.tables.policy all.worked.items all.worked.refused all.worked.text err err_now) is.shapes_are all.told;
      }

      pub work_ends : (stop : Stop) → WorkStops (ground job.task loaded g.input) (Logs (has_workers job.task) before.finders now.finders) before.out.bytes now.out.bytes (InputRose before now) (OutRose before now) stop → EndsBy g before now stop
      work_ends (TooLong Report) stops = given_stops g before now (TooLong Report) here (asked, is.are_files) (subst (λ (shapes : Shapes). IsTooLong job.task shapes loaded.tables.policy) is.shapes_are stops) task_asked
      work_ends (CannotRead Input) stops = outside_stops g before now (CannotRead Input) here (asked, is.are_files) stops task_asked
      work_ends (TooLong Input) stops = given_stops g before now (TooLong Input) here (asked, is.are_files) stops task_asked
      work_ends (NoScript fault) stops = given_stops g before now (NoScript fault) here (asked, is.are_files) stops task_asked
      work_ends (NoPackets fault) stops = given_stops g before now (NoPackets fault) here (asked, is.are_files) stops task_asked
      work_ends CannotWrite stops = outside_stops g before now CannotWrite here (asked, is.are_files) (took_some stops.0, stops.1) task_asked
      work_ends NoMemory stops = outside_stops g before now NoMemory here (asked, is.are_files) (⊎_elim (λ same. inl same) (λ first. inr (took_first first)) stops) task_asked
      work_ends _ stops = absurd stops

-- a stop that was told is the end
pub stopped_ends : (g : Given) (before now : World) (err err_now : Taken) (status : Status) (stop : Stop) → status ≡ status_of stop → EndsBy g before now stop → IsTold err.bytes err_now.bytes err.faults err_now.faults (line_of stop) → Ends g before now err err_now status
stopped_ends g before now err err_now statuses.Done stop is by told = absurd (is_never_done stop (sym is))
stopped_ends g before now err err_now other stop is by told = record { stop = stop; status_is = is; cause = by; told = told }

-- a line that is told to a sink which took nothing meanwhile
pub told_since : (err mid err_now : Taken) (line : List ℕ) → mid ≡ err → IsTold mid.bytes err_now.bytes mid.faults err_now.faults line → IsTold err.bytes err_now.bytes err.faults err_now.faults line
told_since err mid err_now line same told = subst (λ (e : Taken). IsTold e.bytes err_now.bytes e.faults err_now.faults line) same told

-- two facts of a run that is done
pub on_both : (A B : Type 0) (result : Result (Unit {0}) Stop) → OnOk result A → OnOk result B → OnOk result (A × B)
on_both A B (Ok u) one other = (one, other)
on_both A B (Err e) one other = tt

-- a stop before the task: the input was not read, nothing went to `out`, and no finder was asked
pub nothing_done : (g : Given) (before now : World) (err : Taken) (stop : Stop) → has_read (status_of stop) ≡ false → EndsBy g before now stop → before.shelf.faults ≤ now.shelf.faults → now.input ≡ before.input → now.out ≡ before.out → now.finders ≡ before.finders → ComesTo g before now err err (Err stop)
nothing_done g before now err stop early ends counted same-input same-out same-finders = record {
  silent = refl;
  err_counted = omega arith;
  done = tt;
  stopped = ends;
  quiet = λ quiet. ap (λ (out : Taken). out.bytes) same-out;
  read_to_end = λ past asks. absurd (true≢false (sym past ∙ early));
  ended = λ past asks. absurd (true≢false (sym past ∙ early));
  no_further = inl (ap (λ (input : Pulled). input.ends) same-input);
  unread = λ none. same-input;
  shelf_counted = counted;
  input_counted = omega (arith, ap (λ (input : Pulled). input.faults) same-input);
  out_counted = omega (arith, ap (λ (out : Taken). out.faults) same-out);
  finders = subst (λ (finders : List Refusals). AreUsed (ask_for_workers g.words) before.finders finders) (sym same-finders) (finders_same (ask_for_workers g.words) before.finders);
}

-- one at a file
pub load_done : (g : Given) (before now : World) (err : Taken) (job : Job) → job_asked g.words ≡ Some job → now.out ≡ before.out → now.input ≡ before.input → (stop : Stop)
    → LoadStops g.files job (Adds before.shelf.calls now.shelf.calls) (ShelfRose before now) stop → before.shelf.faults ≤ now.shelf.faults → now.finders ≡ before.finders → ComesTo g before now err err (Err stop)
load_done g before now err job asked same-out same-input stop stops counted same-finders =
    nothing_done g before now err stop (load_early g.files job (Adds before.shelf.calls now.shelf.calls) (ShelfRose before now) stop stops) (load_ends g before now job asked (ap (λ (out : Taken). out.bytes) same-out) same-input stop stops)
    counted same-input same-out same-finders
