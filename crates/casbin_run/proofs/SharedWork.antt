-- Scripts whose requests workers answer.
use Rattle.std.proofs.Common.{◌≡◌, ◌⊎◌, inl, inr, ⊎_elim, ℕ, ◌≤◌, Bool, List, [], ◌∷◌, ◌++◌, Option, Ok, Err, append_assoc, drop, length, take, refl, sym, ap, subst, ◌∙◌, arith}
use Rattle.std.specs.Prelude.{OnOk, IfErr, Result, map}
use Rattle.std.specs.List.{AllZip}
use Rattle.std.proofs.Math.Seq.{take-append_seam}
use Rattle.std.proofs.lemmas.List.{take-append-drop}
use Rattle.std.proofs.lemmas.List.Concat.{flat_map-append}
use Rattle.std.proofs.lemmas.Result.{IfErr-weaker, on_ok_weaker}
use Rattle.answer_lines.specs.LineText.{line_text}
use Rattle.answer_lines.specs.declared.answer.Line.{Line}
use Rattle.live_rounds.specs.Scripts.{AreSharedLines}
use Rattle.live_rounds.specs.Shares.{in_turn}
use Rattle.live_rounds.specs.Taken.{AreAllTaken, AreSomeTaken, AreTaken}
use Rattle.live_rounds.specs.declared.taker.TakeStop.{TakeStop}
use Rattle.live_rounds.specs.declared.taker.TakeStop.TheVariants as taker
use Rattle.live_rounds.specs.declared.taker.TakeStop.TheVariants.{Failed}
use Rattle.model_conf.specs.ModelText.{ModelParts}
use Rattle.outside.specs.Faults.{Rose}
use Rattle.outside.proofs.CallerLemmas.{front_of_more, front_of_next, rose_later, with_back-append, with_back-nothing}
use Rattle.outside.specs.Told.{TookFront, with_back}
use Rattle.perm_base.specs.declared.shapes.Shapes.{Shapes}
use Rattle.policy_table.specs.Tables as table
use Rattle.regex_gate.specs.Refusals.{IsUsed, Refusals}
use Rattle.run_status.specs.declared.stop.Stop.{Stop}
use Rattle.run_status.specs.declared.part.Part.TheVariants.{Input}
use Rattle.run_status.specs.declared.stop.Stop.TheVariants.{CannotRead, CannotWrite, NoMemory, NoPackets, NoScript, TooLong}
use Rattle.script_read.specs.Said.{Said}
use Rattle.script_read.specs.Script.{IsScript}
use Rattle.loaded_work.specs.declared.loaded.Loaded.{Loaded}
use Rattle.casbin_run.specs.declared.job.Task.TheVariants.{Serve, Share}
use Rattle.casbin_run.specs.Finders.{HaveRefusedAll}
use Rattle.casbin_run.specs.Given.{InputIs, SaysItems}
use Rattle.casbin_run.specs.Helps.Loads.{InputStops}
use Rattle.casbin_run.specs.Helps.Tasks.{DidAll, DidWrite, Ground, IsQuiet, WorkStops, Worked, ground}
use Rattle.casbin_run.specs.Helps.Shares.{AreAnsweredShared, LinesShared, Printed, PrintedAmid, SharedAll, SharedSome, stop_of, take_stop_of}
use Rattle.loaded_work.specs.Helps.TaskSteps.{LinesStop}
use Rattle.loaded_work.specs.Texts.{text_of_lines}
use Rattle.loaded_work.specs.Sinks.{Taken}
use Rattle.loaded_work.proofs.CallerLemmas.{first_lines, over_equal}
use Rattle.casbin_run.proofs.WorkLemmas.{input_is, lines_not_quiet}

-- what holds, holds after an answer
pub on_ok_any : {A : Type 0} (result : Result (Unit {0}) Stop) → A → OnOk result A
on_ok_any (Ok u) is = is
on_ok_any (Err e) is = tt

-- want of memory is not quiet
memory_not_quiet : {A : Type 0} → IsQuiet NoMemory → A
memory_not_quiet quiet = absurd cc

-- ---- lines that are printed round by round

lines_text : (lines more : List Line) → text_of_lines (lines ++ more) ≡ text_of_lines lines ++ text_of_lines more
lines_text lines more = flat_map-append line_text lines more

-- whole lines, and what follows them
front_text : (out now : Option (List ℕ)) (lines more : List Line) → now ≡ with_back out (text_of_lines lines) → (count : ℕ) × (now ≡ with_back out (text_of_lines (take count (lines ++ more))))
front_text out now lines more took = (length lines, took ∙ ap (λ (l : List Line). with_back out (text_of_lines l)) (sym (take-append_seam lines more)))

module _ {X : Type 0} (bytes : X → Option (List ℕ)) (faults : X → ℕ) where
  abbrev Took : X → List Line → X → Type 0
  Took old lines new = Printed (bytes old) (bytes new) (faults old) (faults new) lines

  abbrev Stopped : X → List Line → X → TakeStop → Type 0
  Stopped old lines new stop = PrintedAmid (bytes old) (bytes new) (faults old) (faults new) lines stop

  lists_printed : (old : X) (lists : List (List Line)) (new : X) → AreTaken Took old lists new → Printed (bytes old) (bytes new) (faults old) (faults new) (in_turn lists)
  lists_printed old [] new taken = (ap bytes taken ∙ with_back-nothing (bytes old), omega (arith, ap faults taken))
  lists_printed old (lines ∷ lists) new taken =
      let rest = lists_printed taken.0 lists new taken.2 in
      (rest.0 ∙ ap (λ (o : Option (List ℕ)). with_back o (text_of_lines (in_turn lists))) (taken.1.0) ∙ with_back-append (bytes old) (text_of_lines lines) (text_of_lines (in_turn lists)) ∙ ap (with_back (bytes old)) (sym (lines_text lines (in_turn lists))), omega (arith, taken.1.1, rest.1))

  pub all_printed : (old : X) (lines : List Line) (new : X) → AreAllTaken Took old lines new → Printed (bytes old) (bytes new) (faults old) (faults new) lines
  all_printed old lines new all = subst (Printed (bytes old) (bytes new) (faults old) (faults new)) (sym all.are) (lists_printed old all.lists new all.taken)

  -- the lines so far, and others that were not taken to their end
  amid_by : (old mid new : X) (lines next more : List Line) (stop : TakeStop) → Printed (bytes old) (bytes mid) (faults old) (faults mid) lines → Stopped mid next new stop → LinesStop (bytes old) (bytes new) (lines ++ (next ++ more)) (Rose (faults old) (faults new)) (stop_of stop) × (faults old ≤ faults new)
  amid_by old mid new lines next more Failed so amid =
      let front = front_of_more (bytes old) (bytes new) (text_of_lines (lines ++ next)) (text_of_lines more) (subst (TookFront (bytes old) (bytes new)) (sym (lines_text lines next)) (front_of_next (bytes old) (bytes mid) (bytes new) (text_of_lines lines) (text_of_lines next) so.0 (amid.0.0))) in
      let whole : text_of_lines (lines ++ next) ++ text_of_lines more ≡ text_of_lines (lines ++ (next ++ more)) = sym (lines_text (lines ++ next) more) ∙ ap text_of_lines (append_assoc lines next more) in
      ((subst (TookFront (bytes old) (bytes new)) whole front, rose_later (faults old) (faults mid) (faults new) so.1 (amid.0.1)), omega (arith, so.1, amid.1))
  amid_by old mid new lines next more taker.NoMemory so amid =
      let count = amid.0.0 in
      let took : bytes new ≡ with_back (bytes old) (text_of_lines (lines ++ take count next))
      = amid.0.1 ∙ ap (λ (o : Option (List ℕ)). with_back o (text_of_lines (take count next))) so.0 ∙ with_back-append (bytes old) (text_of_lines lines) (text_of_lines (take count next)) ∙ ap (with_back (bytes old)) (sym (lines_text lines (take count next))) in
      let whole : (lines ++ take count next) ++ (drop count next ++ more) ≡ lines ++ (next ++ more)
      = append_assoc lines (take count next) (drop count next ++ more) ∙ ap (λ (l : List Line). lines ++ l) (sym (append_assoc (take count next) (drop count next) more) ∙ ap (λ (l : List Line). l ++ more) (take-append-drop count next)) in
      (subst (λ (l : List Line). (k : ℕ) × (bytes new ≡ with_back (bytes old) (text_of_lines (take k l)))) whole (front_text (bytes old) (bytes new) (lines ++ take count next) (drop count next ++ more) took), omega (arith, so.1, amid.1))

  pub some_printed : (old : X) (lines : List Line) (new : X) (stop : TakeStop) → AreSomeTaken Took Stopped old lines new stop → LinesStop (bytes old) (bytes new) lines (Rose (faults old) (faults new)) (stop_of stop) × (faults old ≤ faults new)
  some_printed old lines new stop some =
      let so = lists_printed old some.lists some.mid some.taken in
      subst (λ (l : List Line). LinesStop (bytes old) (bytes new) l (Rose (faults old) (faults new)) (stop_of stop) × (faults old ≤ faults new)) (sym some.parts) (⊎_elim (early so) (amid_by old some.mid new (in_turn some.lists) some.next some.more stop so) some.ends)
    where
      early : Printed (bytes old) (bytes some.mid) (faults old) (faults some.mid) (in_turn some.lists) → (stop ≡ taker.NoMemory) × (new ≡ some.mid)
          → LinesStop (bytes old) (bytes new) (in_turn some.lists ++ (some.next ++ some.more)) (Rose (faults old) (faults new)) (stop_of stop) × (faults old ≤ faults new)
      early so (memory, still) =
          subst (λ (s : TakeStop). LinesStop (bytes old) (bytes new) (in_turn some.lists ++ (some.next ++ some.more)) (Rose (faults old) (faults new)) (stop_of s) × (faults old ≤ faults new)) (sym memory)
          (front_text (bytes old) (bytes new) (in_turn some.lists) (some.next ++ some.more) (ap bytes still ∙ so.0), omega (arith, so.1, ap faults still))

-- a stop at lines, as their taker tells it
pub told_amid : (out out_now : Option (List ℕ)) (faults faults_now : ℕ) (lines : List Line) (stop : Stop) → LinesStop out out_now lines (Rose faults faults_now) stop → faults ≤ faults_now → PrintedAmid out out_now faults faults_now lines (take_stop_of stop)
told_amid out out_now faults faults_now lines CannotWrite stops counted = (stops, counted)
told_amid out out_now faults faults_now lines NoMemory stops counted = (stops, counted)
told_amid out out_now faults faults_now lines _ stops counted = absurd stops

-- ---- lines that were pushed

module _ (IsSaid : List Said → Type 0) (workers : ℕ) (model : ModelParts) (shapes : Shapes) (policy : table.Policy) (befores nows : List Refusals) where
  module _ (items : List Said) (lines : List Line) (says : IsSaid items) (are : AreSharedLines model shapes policy workers befores nows items lines) (out out_now : Option (List ℕ)) where
    abbrev lines_shared : LinesShared IsSaid workers model shapes policy befores nows
    lines_shared = record { items = items; lines = lines; refused = are.refused; says = says; shared = are.shared; logged = record { more = are.more; used = are.used; told = are.told } }

    pub shared_all : out_now ≡ with_back out (text_of_lines lines) → SharedAll IsSaid workers model shapes policy befores nows out out_now
    shared_all took = record { printed = lines_shared; took = took }

    pub shared_some : (out_rose : Type 0) (stop : Stop) → LinesStop out out_now lines out_rose stop → SharedSome IsSaid workers model shapes policy befores nows out out_now out_rose stop
    shared_some out_rose stop stops = record { printed = lines_shared; stops = stops }

  pub shared_over : (loaded : Loaded) (out out_now : Taken) (result : Result (Unit {0}) Stop) → model ≡ loaded.model → shapes ≡ loaded.shapes → policy ≡ loaded.tables.policy
      → OnOk result (SharedAll IsSaid workers model shapes policy befores nows out.bytes out_now.bytes) → IfErr result (SharedSome IsSaid workers model shapes policy befores nows out.bytes out_now.bytes (Rose out.faults out_now.faults))
      → out.faults ≤ out_now.faults → AllZip IsUsed befores nows → AreAnsweredShared IsSaid workers loaded befores nows out out_now result
  shared_over loaded out out_now result same-model same-shapes same-policy all some counted used = record {
    printed = on_ok_weaker result (over_equal (λ (m : ModelParts) (s : Shapes) (p : table.Policy). SharedAll IsSaid workers m s p befores nows out.bytes out_now.bytes) loaded.model model loaded.shapes shapes loaded.tables.policy policy same-model same-shapes same-policy) all;
    stopped = IfErr-weaker result _ _ (λ stop stops. inr (over_equal (λ (m : ModelParts) (s : Shapes) (p : table.Policy). SharedSome IsSaid workers m s p befores nows out.bytes out_now.bytes (Rose out.faults out_now.faults) stop) loaded.model model loaded.shapes shapes loaded.tables.policy policy same-model same-shapes same-policy stops)) some;
    counted = counted;
    used = used;
  }

pub shared_out_of_memory : (IsSaid : List Said → Type 0) (workers : ℕ) (loaded : Loaded) (befores nows : List Refusals) (out : Taken) → AllZip IsUsed befores nows → AreAnsweredShared IsSaid workers loaded befores nows out out (Err NoMemory)
shared_out_of_memory IsSaid workers loaded befores nows out used = record { printed = tt; stopped = inl (refl, refl); counted = omega arith; used = used }

-- ---- the task

-- the items of a script are what the task reads
pub shared_says : (json : Bool) (workers : ℕ) (input : Option (List ℕ)) (script : List ℕ) → InputIs input (λ bytes. bytes ≡ script) → (items : List Said) → IsScript json script items → SaysItems (Share json workers) input items
shared_says json workers input script told items says = input_is input script (λ bytes. IsScript json bytes items) told says

-- why a script was not read is why this task's input was not
pub share_stops : (json : Bool) (workers : ℕ) (input : Option (List ℕ)) (rose : Type 0) (stop : Stop) → InputStops (Serve json) input rose stop → InputStops (Share json workers) input rose stop
share_stops json workers input rose (CannotRead Input) is = is
share_stops json workers input rose (TooLong Input) is = is
share_stops json workers input rose (NoScript fault) is = is
share_stops json workers input rose (NoPackets fault) is = is
share_stops json workers input rose NoMemory is = is
share_stops json workers input rose _ is = absurd is

module _ (json : Bool) (workers : ℕ) (loaded : Loaded) (input : Option (List ℕ)) (script : List ℕ) (told : InputIs input (λ bytes. bytes ≡ script)) (befores nows : List Refusals) (out out_now : Option (List ℕ)) where
  abbrev on : Ground
  on = ground (Share json workers) loaded input

  abbrev IsScriptSaid : List Said → Type 0
  IsScriptSaid items = IsScript json script items

  abbrev worked : LinesShared IsScriptSaid workers loaded.model loaded.shapes loaded.tables.policy befores nows → Worked on (HaveRefusedAll befores nows)
  worked of = record {
    items = of.items;
    packets = [];
    refused = of.refused;
    pieces = map line_text of.lines;
    text = text_of_lines of.lines;
    says = shared_says json workers input script told of.items of.says;
    carries = refl;
    room = tt;
    writes = record { lines = of.lines; shared = of.shared; pieces_are = refl; text_is = refl };
    logged = of.logged;
  }

  pub wrote_all : SharedAll IsScriptSaid workers loaded.model loaded.shapes loaded.tables.policy befores nows out out_now → DidWrite on (HaveRefusedAll befores nows) out out_now
  wrote_all all = record { worked = worked all.printed; took = all.took }

  some_stops : (input_rose out_rose : Type 0) (stop : Stop) → SharedSome IsScriptSaid workers loaded.model loaded.shapes loaded.tables.policy befores nows out out_now out_rose stop → WorkStops on (HaveRefusedAll befores nows) out out_now input_rose out_rose stop
  some_stops input_rose out_rose CannotWrite some = (record { worked = worked some.printed; took = some.stops.0 }, some.stops.1)
  some_stops input_rose out_rose NoMemory some = inr (record { worked = worked some.printed; count = some.stops.0; took = some.stops.1 ∙ ap (with_back out) (first_lines some.stops.0 some.printed.lines) })
  some_stops input_rose out_rose _ some = absurd some.stops

  pub wrote_stops : (input_rose out_rose : Type 0) (stop : Stop) → ((stop ≡ NoMemory) × (out_now ≡ out)) ⊎ SharedSome IsScriptSaid workers loaded.model loaded.shapes loaded.tables.policy befores nows out out_now out_rose stop
      → WorkStops on (HaveRefusedAll befores nows) out out_now input_rose out_rose stop
  wrote_stops input_rose out_rose stop stops =
      ⊎_elim (λ early. subst (λ (s : Stop). WorkStops on (HaveRefusedAll befores nows) out out_now input_rose out_rose s) (sym early.0) (inl early.1)) (λ some. some_stops input_rose out_rose stop some) stops

  -- with another stop nothing was pushed
  pub wrote_quiet : (out_rose : Type 0) (stop : Stop) → ((stop ≡ NoMemory) × (out_now ≡ out)) ⊎ SharedSome IsScriptSaid workers loaded.model loaded.shapes loaded.tables.policy befores nows out out_now out_rose stop → IsQuiet stop → out_now ≡ out
  wrote_quiet out_rose stop stops quiet = ⊎_elim (λ early. early.1) (λ some. lines_not_quiet out out_now some.printed.lines out_rose stop some.stops quiet) stops

  -- and no such stop is told
  pub wrote_idle : {A : Type 0} (out_rose : Type 0) (stop : Stop) → ((stop ≡ NoMemory) × (out_now ≡ out)) ⊎ SharedSome IsScriptSaid workers loaded.model loaded.shapes loaded.tables.policy befores nows out out_now out_rose stop → IsQuiet stop → A
  wrote_idle out_rose stop stops quiet =
      ⊎_elim (λ early. memory_not_quiet (subst IsQuiet early.0 quiet)) (λ some. lines_not_quiet out out_now some.printed.lines out_rose stop some.stops quiet) stops

-- what was written is all that is done, where `err` took nothing
pub wrote_done : (json : Bool) (workers : ℕ) (loaded : Loaded) (input : Option (List ℕ)) (IsLogged : List (List ℕ) → Type 0) (out out_now : Option (List ℕ)) (err : Taken) → DidWrite (ground (Share json workers) loaded input) IsLogged out out_now → DidAll (ground (Share json workers) loaded input) IsLogged out out_now err err
wrote_done json workers loaded input IsLogged out out_now err wrote = record { worked = wrote.worked; took = wrote.took; told = refl }
