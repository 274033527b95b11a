-- Runs whose words ask for the demonstration, and those whose words do not.
use Rattle.std.proofs.Common.{◌≡◌, ◌≤◌, ℕ, Bool, true, false, List, [], ◌∷◌, Option, Some, None, drop, refl, sym, ap, subst, ◌∙◌}
use Rattle.std.specs.Prelude.{◌==◌, ◌||◌, IfSome, MatchOption, map, not}
use Rattle.std.specs.List.{AllZip}
use Rattle.std.proofs.lemmas.Bool.{eqb-true}
use Rattle.std.proofs.lemmas.Option.{option_and_then_some}
use Rattle.std.specs.Option.{option_and_then, option_map_or}
use Rattle.command_words.specs.Commands.{command_of}
use Rattle.command_words.specs.declared.command.Command.{Command}
use Rattle.command_words.specs.declared.command.Command.TheVariants as command
use Rattle.command_words.proofs.CallerLemmas.{HasRanges, command_of-ranges}
use Rattle.regex_gate.specs.Refusals.{IsUsed, Refusals}
use Rattle.demo_run.specs.Demo.{IsDemo}
use Rattle.outside.proofs.CallerLemmas.{adds_none}
use Rattle.outside.specs.Faults.{Rose}
use Rattle.run_status.specs.Messages.{line_of}
use Rattle.run_status.specs.Statuses.{status_of}
use Rattle.run_status.specs.Told.{IsTold}
use Rattle.run_status.specs.declared.status.Status.{Status}
use Rattle.run_status.specs.declared.status.Status.TheVariants as statuses
use Rattle.run_status.specs.declared.stop.Stop.{Stop}
use Rattle.run_status.specs.declared.stop.Stop.TheVariants as stops
use Rattle.casbin_run.specs.Demos.{EndsAs, EndsDemo, demo_asked, demo_of, some_workers}
use Rattle.casbin_run.specs.Ends.{Ends, may_write}
use Rattle.casbin_run.specs.Finders.{AreUsed, IsFirstUsed}
use Rattle.casbin_run.specs.Given.{Given}
use Rattle.casbin_run.specs.Helps.Demos.{DemoEnds}
use Rattle.loaded_work.specs.Helps.TaskSteps.{Showed, TextStops}
use Rattle.casbin_run.specs.Jobs.{ask_for_input, ask_for_workers, has_workers, job_of, reads_input}
use Rattle.loaded_work.specs.Sinks.{Taken}
use Rattle.casbin_run.specs.Worlds.{World}
use Rattle.casbin_run.proofs.EndLemmas.{memory_end}
use Rattle.casbin_run.specs.declared.job.Job.{Job}

-- what was read of words, where they are a command and where they are none
pub demo_read : (words : List (List ℕ)) (found : Option Command) (asked : Command) (result : Option (ℕ × ℕ)) → found ≡ command_of words → found ≡ Some asked → result ≡ demo_of asked → result ≡ demo_asked words
demo_read words found asked result is some made = made ∙ ap (λ (o : Option Command). option_and_then demo_of o) (sym some ∙ is)

pub no_demo_read : (words : List (List ℕ)) (found : Option Command) → found ≡ command_of words → found ≡ None → None ≡ demo_asked words
no_demo_read words found is none = ap (λ (o : Option Command). option_and_then demo_of o) (sym none ∙ is)

or_none : (test : Bool) → (test || false) ≡ test
or_none true = refl
or_none false = refl

-- words that ask for no demonstration ask for workers as their job does
pub without_demo : (words : List (List ℕ)) → None ≡ demo_asked words → some_workers words ≡ ask_for_workers words
without_demo words none =
    ap (λ (demo : Option (ℕ × ℕ)). ask_for_workers words || option_map_or (λ (d : ℕ × ℕ). not (d.1 == 0)) demo false) (sym none) ∙ or_none (ask_for_workers words)

-- words that ask for it are no job
no_job : (found : Option Command) (demo : ℕ × ℕ) → option_and_then demo_of found ≡ Some demo → option_and_then job_of found ≡ None
no_job None demo is = refl
no_job (Some (command.Demo count workers)) demo is = refl
no_job (Some _) demo is = absurd cc

pub with_demo : (words : List (List ℕ)) (demo : ℕ × ℕ) → Some demo ≡ demo_asked words → some_workers words ≡ not (demo.1 == 0)
with_demo words demo is =
    let none : ask_for_workers words ≡ false = ap (λ (found : Option Job). option_map_or (λ (job : Job). has_workers job.task) found false) (no_job (command_of words) demo (sym is)) in
    (λ j. none j || option_map_or (λ (d : ℕ × ℕ). not (d.1 == 0)) (sym is j) false)

-- and ask for no input
pub demo_unread : (words : List (List ℕ)) (demo : ℕ × ℕ) → Some demo ≡ demo_asked words → ask_for_input words ≡ false
demo_unread words demo is = ap (λ (found : Option Job). option_map_or (λ (job : Job). reads_input job.task) found false) (no_job (command_of words) demo (sym is))

-- a demonstration has at most eight workers
abbrev HasFew : Option (ℕ × ℕ) → Type 0
HasFew None = Unit {0}
HasFew (Some demo) = demo.1 ≤ 8

demo_has : (asked : Command) → HasRanges asked → HasFew (demo_of asked)
demo_has (command.Demo count workers) has = has.2
demo_has _ has = tt

pub demo_few : (words : List (List ℕ)) (result : Option (ℕ × ℕ)) → result ≡ demo_asked words → IfSome result (λ demo. demo.1 ≤ 8)
demo_few words None asked = tt
demo_few words (Some demo) asked = option_and_then_some demo_of (command_of words) demo (sym asked) (λ found told made. subst HasFew made (demo_has found (command_of-ranges words found told)))

-- the first finder alone, where the others are as they were
first_alone : (before now : List Refusals) → AllZip IsUsed before now → drop 1 now ≡ drop 1 before → IsFirstUsed before now
first_alone [] [] used same = ([], refl)
first_alone (b ∷ before) (n ∷ now) used same = (used.0.more, (used.0.refused, same))
first_alone [] (n ∷ now) used same = absurd used
first_alone (b ∷ before) [] used same = absurd used

pub no_workers : (workers : ℕ) → not (workers == 0) ≡ false → workers ≡ 0
no_workers workers none = by (workers == 0) refl none
  where
    by : (test : Bool) → (workers == 0) ≡ test → not test ≡ false → workers ≡ 0
    by true is none = eqb-true workers 0 is
    by false is none = absurd cc

-- the finders of a demonstration
pub demo_used : (workers : ℕ) (before now : List Refusals) → AllZip IsUsed before now → (workers ≡ 0 → drop 1 now ≡ drop 1 before) → AreUsed (not (workers == 0)) before now
demo_used workers before now used alone = by (workers == 0) refl
  where
    by : (test : Bool) → (workers == 0) ≡ test → AreUsed (not test) before now
    by true none = first_alone before now used (alone (eqb-true workers 0 none))
    by false some = used

-- what is behind the first is alike where the finders are
pub maps_alike : {P : Type 0} (refusals : P → Refusals) (befores nows : List P) → drop 1 nows ≡ drop 1 befores → drop 1 (map refusals nows) ≡ drop 1 (map refusals befores)
maps_alike {P = P} refusals befores nows same = dropped nows ∙ ap (map refusals) same ∙ sym (dropped befores)
  where
    dropped : (list : List P) → drop 1 (map refusals list) ≡ map refusals (drop 1 list)
    dropped [] = refl
    dropped (x ∷ list) = refl

-- ---- how it ends

-- memory ran out at the words: nothing was asked of anything
pub memory_ends : (g : Given) (before : World) (err err_now : Taken) (status : Status) → status ≡ status_of stops.NoMemory → IsTold err.bytes err_now.bytes err.faults err_now.faults (line_of stops.NoMemory) → EndsAs g before before err err_now status
memory_ends g before err err_now status is told = subst (λ (s : Status). EndsAs g before before err err_now s) (sym is) (by (demo_asked g.words))
  where
    by : (demo : Option (ℕ × ℕ)) → MatchOption demo (Ends g before before err err_now statuses.NoMemory) (λ (d : ℕ × ℕ). (before.shelf ≡ before.shelf) × EndsDemo d.0 d.1 before before err err_now statuses.NoMemory)
    by None = record { stop = stops.NoMemory; status_is = refl; cause = memory_end g before before refl (adds_none before.shelf.calls) refl; told = told }
    by (Some demo) = (refl, (refl, told))

-- words that ask for no demonstration, and those that ask for one
module _ (g : Given) (before now : World) (err err_now : Taken) (status : Status) where
  pub ends_files : None ≡ demo_asked g.words → Ends g before now err err_now status → EndsAs g before now err err_now status
  ends_files none ends = subst (λ (demo : Option (ℕ × ℕ)). MatchOption demo (Ends g before now err err_now status) (λ (d : ℕ × ℕ). (now.shelf ≡ before.shelf) × EndsDemo d.0 d.1 before now err err_now status)) none ends

  pub ends_demo : (demo : ℕ × ℕ) → Some demo ≡ demo_asked g.words → now.shelf ≡ before.shelf → EndsDemo demo.0 demo.1 before now err err_now status → EndsAs g before now err err_now status
  ends_demo demo asked unfetched ends =
      subst (λ (found : Option (ℕ × ℕ)). MatchOption found (Ends g before now err err_now status) (λ (d : ℕ × ℕ). (now.shelf ≡ before.shelf) × EndsDemo d.0 d.1 before now err err_now status)) asked (unfetched, ends)

-- by what the sinks took, where this is all that changed of the world
pub demo_ends : (count workers : ℕ) (before now : World) (err err_now : Taken) (status : Status) → DemoEnds count workers before.out now.out err err_now status → EndsDemo count workers before now err err_now status
demo_ends count workers before now err err_now statuses.Done ends = (record { text = ends.0.text; is = ends.0.is; took = ends.0.took }, ends.1)
demo_ends count workers before now err err_now statuses.WriteFault ends = (record { text = ends.0.text; is = ends.0.is; took = ends.0.took }, ends.1, ends.2)
demo_ends count workers before now err err_now statuses.NoMemory ends = ends
demo_ends count workers before now err err_now _ ends = absurd ends

-- a summary that was pushed, or not
pub demo_done : (count workers : ℕ) (out out_now err : Taken) → Showed (IsDemo count workers) out.bytes out_now.bytes → DemoEnds count workers out out_now err err statuses.Done
demo_done count workers out out_now err shown = (shown, refl)

pub demo_stops : (count workers : ℕ) (out out_now err err_now : Taken) (stop : Stop) (status : Status) → status ≡ status_of stop → TextStops (IsDemo count workers) out.bytes out_now.bytes (Rose out.faults out_now.faults) stop → IsTold err.bytes err_now.bytes err.faults err_now.faults (line_of stop)
    → DemoEnds count workers out out_now err err_now status
demo_stops count workers out out_now err err_now stops.CannotWrite status is stopped told = subst (DemoEnds count workers out out_now err err_now) (sym is) (stopped.0, stopped.1, told)
demo_stops count workers out out_now err err_now stops.NoMemory status is stopped told = subst (DemoEnds count workers out out_now err err_now) (sym is) (stopped, told)
demo_stops count workers out out_now err err_now _ status is stopped told = absurd stopped

-- with each of its statuses something may go to `out`
pub demo_writes : (count workers : ℕ) (out out_now err err_now : Taken) (status : Status) → DemoEnds count workers out out_now err err_now status → may_write status ≡ true
demo_writes count workers out out_now err err_now statuses.Done ends = refl
demo_writes count workers out out_now err err_now statuses.WriteFault ends = refl
demo_writes count workers out out_now err err_now statuses.NoMemory ends = refl
demo_writes count workers out out_now err err_now _ ends = absurd ends
