-- What a task comes to.
use Rattle.std.proofs.Common.{◌≡◌, ℕ, List, [], inl, inr, ⊎_elim, refl, sym, ap, subst, ◌∙◌, Bool, true, false}
use Rattle.std.specs.Prelude.{Option, map}
use Rattle.answer_lines.specs.LineText.{line_text}
use Rattle.answer_lines.specs.declared.answer.Line.{Line}
use Rattle.command_words.specs.FileNames.{SubjectName}
use Rattle.log_ship.specs.declared.packet.Packet.{Packet}
use Rattle.model_conf.specs.ModelText.{ModelParts}
use Rattle.outside.specs.Told.{with_back}
use Rattle.perm_base.specs.declared.shapes.Shapes.{Shapes}
use Rattle.policy_csv.specs.Printed.{printed}
use Rattle.policy_table.specs.Tables as table
use Rattle.regex_gate.proofs.CallerLemmas.{used_none}
use Rattle.regex_gate.specs.Refusals.{IsUsed, Refusals}
use Rattle.run_status.specs.declared.part.Part.TheVariants.{Input, Report}
use Rattle.run_status.specs.declared.stop.Stop.{Stop}
use Rattle.run_status.specs.declared.stop.Stop.TheVariants.{NoScript, NoPackets, CannotRead, CannotWrite, TooLong, NoMemory}
use Rattle.script_read.specs.Said.{Said}
use Rattle.script_read.specs.Script.{IsRequests, IsScript}
use Rattle.script_read.specs.Script.IsScriptFault.{not_utf8}
use Rattle.session_meaning.specs.Plain.{all_refused}
use Rattle.loaded_work.specs.Finders.{HasRefused}
use Rattle.loaded_work.specs.Followed.{IsFollowed}
use Rattle.loaded_work.proofs.CallerLemmas.{first_lines}
use Rattle.casbin_run.specs.Given.{InputIs, SaysItems, SaysPackets}
use Rattle.casbin_run.specs.Helps.Loads.{BytesStop, InputStops}
use Rattle.casbin_run.specs.Helps.Tasks.{DidAll, Ground, IsQuiet, WorkStops, Worked, ground}
use Rattle.loaded_work.specs.Helps.TaskSteps.{AnswerStops, LinesOf, IsShortReport, LinesStop, PrintedAll, PrintedSome, ReportStops, ShowStops, Showed, TextStops}
use Rattle.casbin_run.specs.Jobs.{reads_input}
use Rattle.loaded_work.specs.Roles.{IsImplied}
use Rattle.loaded_work.specs.Shipped.{ship_text}
use Rattle.casbin_run.specs.Texts.{IsOfLines, check_text}
use Rattle.loaded_work.specs.Texts.{text_of_lines}
use Rattle.loaded_work.specs.Sinks.{Taken}
use Rattle.casbin_run.specs.Written.{HasRoom, Tells, Writes}
use Rattle.loaded_work.specs.declared.loaded.Loaded.{Loaded}
use Rattle.casbin_run.specs.declared.job.Task.{Task}
use Rattle.casbin_run.specs.declared.job.Task.TheVariants as tasks
use Rattle.casbin_run.specs.declared.job.Task.TheVariants.{Enforce, Serve, Check, Format, Implicit}

-- ---- reading the input

pub bytes_stop : (task : Task) (input : Option (List ℕ)) (rose : Type 0) (stop : Stop) → BytesStop input rose stop → InputStops task input rose stop
bytes_stop task input rose (CannotRead Input) stops = stops
bytes_stop task input rose (TooLong Input) stops = stops
bytes_stop task input rose NoMemory stops = tt
bytes_stop task input rose _ stops = absurd stops

pub input_stops : (on : Ground) (IsLogged : List (List ℕ) → Type 0) (out : Option (List ℕ)) (input_rose out_rose : Type 0) (stop : Stop) → reads_input on.task ≡ true → InputStops on.task on.input input_rose stop
    → WorkStops on IsLogged out out input_rose out_rose stop
input_stops on IsLogged out input_rose out_rose (CannotRead Input) reads stops = (reads, stops)
input_stops on IsLogged out input_rose out_rose (TooLong Input) reads stops = (reads, stops)
input_stops on IsLogged out input_rose out_rose (NoScript fault) reads stops = (reads, stops)
input_stops on IsLogged out input_rose out_rose (NoPackets fault) reads stops = (reads, stops)
input_stops on IsLogged out input_rose out_rose NoMemory reads stops = inl refl
input_stops on IsLogged out input_rose out_rose _ reads stops = absurd stops

-- what is no text is no script
pub served_stops : (json : Bool) (input : Option (List ℕ)) (rose : Type 0) (stop : Stop) → InputStops (Enforce json) input rose stop → InputStops (Serve json) input rose stop
served_stops json input rose (CannotRead Input) stops = stops
served_stops json input rose (TooLong Input) stops = stops
served_stops json input rose (NoScript fault) (bytes, told, within, none) = (bytes, told, within, not_utf8 none.0 none.1)
served_stops json input rose (NoPackets fault) stops = stops
served_stops json input rose NoMemory stops = stops
served_stops json input rose _ stops = absurd stops

-- a script that is shipped is read as one that is served
pub shipped_stops : (input : Option (List ℕ)) (rose : Type 0) (stop : Stop) → InputStops (Serve false) input rose stop → InputStops tasks.Ship input rose stop
shipped_stops input rose (CannotRead Input) stops = stops
shipped_stops input rose (TooLong Input) stops = stops
shipped_stops input rose (NoScript fault) stops = stops
shipped_stops input rose (NoPackets fault) stops = stops
shipped_stops input rose NoMemory stops = stops
shipped_stops input rose _ stops = absurd stops

-- the input is this text, of which the fact holds
pub input_is : (input : Option (List ℕ)) (text : List ℕ) (fact : List ℕ → Type 0) → InputIs input (λ bytes. bytes ≡ text) → fact text → InputIs input fact
input_is input text fact (bytes, told, within, same) is = (bytes, told, within, subst fact (sym same) is)

-- ---- tasks that read the input

-- requests that a text says, or the items of a script, are what its task reads
pub asked_says : (json : Bool) (input : Option (List ℕ)) (text : List ℕ) → InputIs input (λ bytes. bytes ≡ text) → (items : List Said) → IsRequests json text items → SaysItems (Enforce json) input items
asked_says json input text told items says = input_is input text (λ bytes. IsRequests json bytes items) told says

pub served_says : (json : Bool) (input : Option (List ℕ)) (script : List ℕ) → InputIs input (λ bytes. bytes ≡ script) → (items : List Said) → IsScript json script items → SaysItems (Serve json) input items
served_says json input script told items says = input_is input script (λ bytes. IsScript json bytes items) told says

-- the text of the task is that of the lines of its items
abbrev pub WritesLines : Ground → Type 0
WritesLines on = (items : List Said) (refused : List (List (List ℕ))) (pieces : List (List ℕ)) (text : List ℕ) → IsOfLines on.model on.shapes on.policy items refused pieces text → Writes on.task on.model on.shapes on.policy items [] refused pieces text

module _ (on : Ground) (writes : WritesLines on) (room : HasRoom on.task on.shapes on.policy) (alone : SaysPackets on.task on.input []) (IsSaid : List Said → Type 0) (says : (items : List Said) → IsSaid items → SaysItems on.task on.input items) (before now : Refusals) (out out_now : Option (List ℕ)) where
  abbrev worked : LinesOf IsSaid on.model on.shapes on.policy (HasRefused before now) → Worked on (HasRefused before now)
  worked of = record {
    items = of.items;
    packets = [];
    refused = of.refused;
    pieces = map line_text of.lines;
    text = text_of_lines of.lines;
    says = says of.items of.says;
    carries = alone;
    room = room;
    writes = writes of.items of.refused (map line_text of.lines) (text_of_lines of.lines) (record { lines = of.lines; plain = of.plain; pieces_are = refl; text_is = refl });
    logged = of.logged;
  }

  pub answered_all : (err err_now : Taken) (all : PrintedAll IsSaid on.model on.shapes on.policy before now out out_now) → Tells on.task on.model on.shapes on.policy all.printed.items all.printed.refused (text_of_lines all.printed.lines) err err_now → DidAll on (HasRefused before now) out out_now err err_now
  answered_all err err_now all told = record { worked = worked all.printed; took = all.took; told = told }

  some_stops : (input_rose out_rose : Type 0) (stop : Stop) → PrintedSome IsSaid on.model on.shapes on.policy before now out out_now out_rose stop → WorkStops on (HasRefused before now) out out_now input_rose out_rose stop
  some_stops input_rose out_rose CannotWrite some = (record { worked = worked some.printed; took = some.stops.0 }, some.stops.1)
  some_stops input_rose out_rose NoMemory some = inr (record { worked = worked some.printed; count = some.stops.0; took = some.stops.1 ∙ ap (with_back out) (first_lines some.stops.0 some.printed.lines) })
  some_stops input_rose out_rose _ some = absurd some.stops

  pub answered_stops : (input_rose out_rose : Type 0) (stop : Stop) → AnswerStops IsSaid on.model on.shapes on.policy before now out out_now out_rose stop → WorkStops on (HasRefused before now) out out_now input_rose out_rose stop
  answered_stops input_rose out_rose stop stops =
      ⊎_elim (λ early. subst (λ (s : Stop). WorkStops on (HasRefused before now) out out_now input_rose out_rose s) (sym early.0) (inl early.1)) (λ some. some_stops input_rose out_rose stop some) stops

-- ---- stops that are not quiet

pub lines_not_quiet : {A : Type 0} (out out_now : Option (List ℕ)) (lines : List Line) (out_rose : Type 0) (stop : Stop) → LinesStop out out_now lines out_rose stop → IsQuiet stop → A
lines_not_quiet out out_now lines out_rose CannotWrite stops quiet = absurd cc
lines_not_quiet out out_now lines out_rose NoMemory stops quiet = absurd cc
lines_not_quiet out out_now lines out_rose _ stops quiet = absurd stops

-- want of memory is not quiet
memory_not_quiet : {A : Type 0} → IsQuiet NoMemory → A
memory_not_quiet quiet = absurd cc

pub answer_not_quiet : {A : Type 0} (IsSaid : List Said → Type 0) (model : ModelParts) (shapes : Shapes) (policy : table.Policy) (before now : Refusals) (out out_now : Option (List ℕ)) (out_rose : Type 0) (stop : Stop) → AnswerStops IsSaid model shapes policy before now out out_now out_rose stop → IsQuiet stop → A
answer_not_quiet IsSaid model shapes policy before now out out_now out_rose stop stops quiet =
    ⊎_elim (λ early. memory_not_quiet (subst IsQuiet early.0 quiet)) (λ some. lines_not_quiet out out_now some.printed.lines out_rose stop some.stops quiet) stops

pub show_quiet : (out out_now : Option (List ℕ)) (text : List ℕ) (out_rose : Type 0) (stop : Stop) → ShowStops out out_now text out_rose stop → IsQuiet stop → out_now ≡ out
show_quiet out out_now text out_rose CannotWrite stops quiet = absurd cc
show_quiet out out_now text out_rose NoMemory stops quiet = stops
show_quiet out out_now text out_rose _ stops quiet = absurd stops

-- ---- tasks that write one text

-- a text that is written as a whole
pub record Shows (on : Ground) (text : List ℕ) : Type 0 where
  pub items : List Said
  pub packets : List Packet
  pub says : SaysItems on.task on.input items
  pub carries : SaysPackets on.task on.input packets
  pub room : HasRoom on.task on.shapes on.policy
  pub writes : Writes on.task on.model on.shapes on.policy items packets [] [] text
  pub silent : (err : Taken) → Tells on.task on.model on.shapes on.policy items [] text err err

abbrev shown : (on : Ground) (refusals : Refusals) (text : List ℕ) → Shows on text → Worked on (HasRefused refusals refusals)
shown on refusals text shows = record { items = shows.items; packets = shows.packets; refused = []; pieces = []; text = text; says = shows.says; carries = shows.carries; room = shows.room; writes = shows.writes; logged = refl }

module _ (on : Ground) (refusals : Refusals) (text : List ℕ) (shows : Shows on text) (out out_now : Option (List ℕ)) where
  pub shown_all : (err : Taken) → out_now ≡ with_back out text → DidAll on (HasRefused refusals refusals) out out_now err err
  shown_all err took = record { worked = shown on refusals text shows; took = took; told = shows.silent err }

  pub shown_stops : (input_rose out_rose : Type 0) (stop : Stop) → ShowStops out out_now text out_rose stop → WorkStops on (HasRefused refusals refusals) out out_now input_rose out_rose stop
  shown_stops input_rose out_rose CannotWrite stops = (record { worked = shown on refusals text shows; took = stops.0 }, stops.1)
  shown_stops input_rose out_rose NoMemory stops = inl stops
  shown_stops input_rose out_rose _ stops = absurd stops

-- the finder was not asked meanwhile
pub shown_still : (on : Ground) (refusals now : Refusals) (text : List ℕ) → Shows on text → now ≡ refusals → (out out_now : Option (List ℕ)) (err : Taken) → out_now ≡ with_back out text → DidAll on (HasRefused refusals now) out out_now err err
shown_still on refusals now text shows still out out_now err took = subst (λ (r : Refusals). DidAll on (HasRefused refusals r) out out_now err err) (sym still) (shown_all on refusals text shows out out_now err took)

pub stops_still : (on : Ground) (refusals now : Refusals) (text : List ℕ) → Shows on text → now ≡ refusals → (out out_now : Option (List ℕ)) (input_rose out_rose : Type 0) (stop : Stop) → ShowStops out out_now text out_rose stop → WorkStops on (HasRefused refusals now) out out_now input_rose out_rose stop
stops_still on refusals now text shows still out out_now input_rose out_rose stop stops =
    subst (λ (r : Refusals). WorkStops on (HasRefused refusals r) out out_now input_rose out_rose stop) (sym still) (shown_stops on refusals text shows out out_now input_rose out_rose stop stops)

pub show_not_quiet : {A : Type 0} (out out_now : Option (List ℕ)) (text : List ℕ) (out_rose : Type 0) (stop : Stop) → ShowStops out out_now text out_rose stop → IsQuiet stop → A
show_not_quiet out out_now text out_rose CannotWrite stops quiet = absurd cc
show_not_quiet out out_now text out_rose NoMemory stops quiet = absurd cc
show_not_quiet out out_now text out_rose _ stops quiet = absurd stops

pub used_still : (refusals now : Refusals) → now ≡ refusals → IsUsed refusals now
used_still refusals now still = subst (λ (r : Refusals). IsUsed refusals r) (sym still) (used_none refusals)

-- a text that is told by what holds of it
module _ (on : Ground) (refusals : Refusals) (Is : List ℕ → Type 0) (shows : (text : List ℕ) → Is text → Shows on text) (out out_now : Option (List ℕ)) where
  pub showed_all : (err : Taken) → Showed Is out out_now → DidAll on (HasRefused refusals refusals) out out_now err err
  showed_all err all = record { worked = shown on refusals all.text (shows all.text all.is); took = all.took; told = (shows all.text all.is).silent err }

  pub text_stops : (input_rose out_rose : Type 0) (stop : Stop) → TextStops Is out out_now out_rose stop → WorkStops on (HasRefused refusals refusals) out out_now input_rose out_rose stop
  text_stops input_rose out_rose CannotWrite (some, rose) = (record { worked = shown on refusals some.text (shows some.text some.is); took = some.took }, rose)
  text_stops input_rose out_rose NoMemory stops = inl stops
  text_stops input_rose out_rose _ stops = absurd stops

-- what these tasks write
module _ (loaded : Loaded) (input : Option (List ℕ)) where
  pub shows_check : Shows (ground Check loaded input) (check_text loaded.model loaded.tables.policy)
  shows_check = record { items = []; packets = []; says = refl; carries = refl; room = tt; writes = record { none_refused = refl; no_pieces = refl; is = refl }; silent = λ err. refl }

  pub shows_format : Shows (ground Format loaded input) (printed loaded.tables.policy)
  shows_format = record { items = []; packets = []; says = refl; carries = refl; room = tt; writes = record { none_refused = refl; no_pieces = refl; is = refl }; silent = λ err. refl }

  pub shows_implied : (subject : SubjectName) (text : List ℕ) → IsImplied loaded.model loaded.shapes loaded.tables.policy subject text → Shows (ground (Implicit subject) loaded input) text
  shows_implied subject text is = record { items = []; packets = []; says = refl; carries = refl; room = tt; writes = record { none_refused = refl; no_pieces = refl; is = is }; silent = λ err. refl }

  pub shows_report : (text : List ℕ) → IsShortReport loaded.shapes loaded.tables.policy text → Shows (ground tasks.Report loaded input) text
  shows_report text (is, short) = record { items = []; packets = []; says = refl; carries = refl; room = short; writes = record { none_refused = refl; no_pieces = refl; is = is }; silent = λ err. refl }

-- what is shipped, and what packets come to
pub shows_ship : (loaded : Loaded) (input : Option (List ℕ)) (items : List Said) → SaysItems tasks.Ship input items → Shows (ground tasks.Ship loaded input) (ship_text loaded.shapes loaded.tables.policy items)
shows_ship loaded input items says = record { items = items; packets = []; says = says; carries = refl; room = tt; writes = record { none_refused = refl; no_pieces = refl; is = refl }; silent = λ err. refl }

pub shows_follow : (loaded : Loaded) (input : Option (List ℕ)) (packets : List Packet) → SaysPackets tasks.Follow input packets → (text : List ℕ) → IsFollowed loaded.shapes loaded.tables.policy packets text → Shows (ground tasks.Follow loaded input) text
shows_follow loaded input packets carries text is = record { items = []; packets = packets; says = refl; carries = carries; room = tt; writes = record { none_refused = refl; no_pieces = refl; is = is }; silent = λ err. refl }

pub report_stops : (loaded : Loaded) (input : Option (List ℕ)) (refusals : Refusals) (out out_now : Option (List ℕ)) (input_rose out_rose : Type 0) (stop : Stop) → ReportStops loaded.shapes loaded.tables.policy out out_now out_rose stop
    → WorkStops (ground tasks.Report loaded input) (HasRefused refusals refusals) out out_now input_rose out_rose stop
report_stops loaded input refusals out out_now input_rose out_rose (TooLong Report) stops = stops.0
report_stops loaded input refusals out out_now input_rose out_rose CannotWrite stops = text_stops (ground tasks.Report loaded input) refusals (IsShortReport loaded.shapes loaded.tables.policy) (shows_report loaded input) out out_now input_rose out_rose CannotWrite stops
report_stops loaded input refusals out out_now input_rose out_rose NoMemory stops = inl stops
report_stops loaded input refusals out out_now input_rose out_rose _ stops = absurd stops

pub text_quiet : (Is : List ℕ → Type 0) (out out_now : Option (List ℕ)) (out_rose : Type 0) (stop : Stop) → TextStops Is out out_now out_rose stop → IsQuiet stop → out_now ≡ out
text_quiet Is out out_now out_rose CannotWrite stops quiet = absurd cc
text_quiet Is out out_now out_rose NoMemory stops quiet = stops
text_quiet Is out out_now out_rose _ stops quiet = absurd stops

pub report_quiet : (shapes : Shapes) (policy : table.Policy) (out out_now : Option (List ℕ)) (out_rose : Type 0) (stop : Stop) → ReportStops shapes policy out out_now out_rose stop → IsQuiet stop → out_now ≡ out
report_quiet shapes policy out out_now out_rose (TooLong Report) stops quiet = stops.1
report_quiet shapes policy out out_now out_rose CannotWrite stops quiet = absurd cc
report_quiet shapes policy out out_now out_rose NoMemory stops quiet = stops
report_quiet shapes policy out out_now out_rose _ stops quiet = absurd stops

-- ---- with more finders

module _ (on : Ground) (IsLogged AreLogged : List (List ℕ) → Type 0) (more : (patterns : List (List ℕ)) → IsLogged patterns → AreLogged patterns) where
  worked_more : Worked on IsLogged → Worked on AreLogged
  worked_more of = record { items = of.items; packets = of.packets; refused = of.refused; pieces = of.pieces; text = of.text; says = of.says; carries = of.carries; room = of.room; writes = of.writes; logged = more (all_refused of.refused) of.logged }

  pub all_more : (out out_now : Option (List ℕ)) (err err_now : Taken) → DidAll on IsLogged out out_now err err_now → DidAll on AreLogged out out_now err err_now
  unfolding worked_more
  all_more out out_now err err_now all = record { worked = worked_more all.worked; took = all.took; told = all.told }

  pub stops_more : (out out_now : Option (List ℕ)) (input_rose out_rose : Type 0) (stop : Stop) → WorkStops on IsLogged out out_now input_rose out_rose stop → WorkStops on AreLogged out out_now input_rose out_rose stop
  unfolding worked_more
  stops_more out out_now input_rose out_rose (CannotRead Input) stops = stops
  stops_more out out_now input_rose out_rose (TooLong Input) stops = stops
  stops_more out out_now input_rose out_rose (TooLong Report) stops = stops
  stops_more out out_now input_rose out_rose (NoScript fault) stops = stops
  stops_more out out_now input_rose out_rose (NoPackets fault) stops = stops
  stops_more out out_now input_rose out_rose CannotWrite stops = (record { worked = worked_more stops.0.worked; took = stops.0.took }, stops.1)
  stops_more out out_now input_rose out_rose NoMemory stops = ⊎_elim (λ same. inl same) (λ first. inr (record { worked = worked_more first.worked; count = first.count; took = first.took })) stops
  stops_more out out_now input_rose out_rose _ stops = absurd stops
