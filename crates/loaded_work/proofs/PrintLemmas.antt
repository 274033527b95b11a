-- How far the requests of an input are answered and their lines printed.
use Rattle.std.proofs.Common.{◌≡◌, ℕ, ◌+◌, ◌≤◌, Bool, List, [], ◌∷◌, ◌++◌, append_assoc, append-nil, map, refl, sym, ap, subst, ◌∙◌, arith}
use Rattle.std.specs.Prelude.{Option, IsUtf8, String, min, string_bytes}
use Rattle.std.specs.declared.alloc.Global.{Global}
use Rattle.answer_lines.specs.LineText.{line_text}
use Rattle.answer_lines.specs.Printed.{ArePrinted, printed_line, text_of}
use Rattle.answer_lines.specs.declared.answer.Line.{Line}
use Rattle.answer_lines.specs.declared.printed_lines.PrintedLines.{PrintedLines}
use Rattle.desk_session.proofs.CallerLemmas.{IsUnderWay, alone, alone_before, logged_more, request_step, under_way_more, under_way_none, way_used}
use Rattle.desk_session.specs.Requests.{Refuses}
use Rattle.model_conf.specs.ModelText.{ModelParts}
use Rattle.outside.specs.Faults.{Rose}
use Rattle.outside.specs.Told.{with_back, TookFront}
use Rattle.policy_state.specs.States.{State, tables}
use Rattle.regex_gate.specs.Refusals.{IsUsed, Refusals, after_refusals}
use Rattle.run_status.specs.declared.stop.Stop.TheVariants.{CannotWrite, NoMemory}
use Rattle.script_read.specs.Lines.{requests_of}
use Rattle.script_read.specs.Reads.{Reader}
use Rattle.script_read.specs.Said.{Reading, Said, asks}
use Rattle.script_read.specs.Script.{IsRequests}
use Rattle.session_meaning.specs.Plain.{IsPlain, all_refused, most_number}
use Rattle.version_log.specs.Log.{versions}
use Rattle.loaded_work.specs.Finders.{HasRefused}
use Rattle.loaded_work.specs.Helps.GatheredLines.{AreGathered, Moves}
use Rattle.loaded_work.specs.Helps.TaskSteps.{AnswersLine, LinesOf, PrintedAll, PrintedSome, StopsLine}
use Rattle.loaded_work.specs.Texts.{text_of_lines}
use Rattle.loaded_work.proofs.AskLemmas.{HasVerdicts, MoreLines, OneWay, asked, asked_more, more_lines, one_reading, stopped_lines}
use Rattle.loaded_work.proofs.GatheredLemmas.{all_pushed, gathered_more, gathered_moved, gathered_none, stopped_first, stopped_front}

-- what a run of requests is over: a model, a policy, a reader of requests, and the lines of its input
pub record Run (json : Bool) : Type 0 where
  pub model : ModelParts
  pub state : State
  pub reader : Reader json
  pub all : List (List ℕ)

-- what the sink had taken and has, with its counts, and what the finder has refused before and now
pub record Seen : Type 0 where
  pub out : Option (List ℕ)
  pub out_now : Option (List ℕ)
  pub faults : ℕ
  pub faults_now : ℕ
  pub before : Refusals
  pub now : Refusals

abbrev pub run_over : {json : Bool} → ModelParts → State → Reader json → List (List ℕ) → Run json
run_over model state reader all = record { model = model; state = state; reader = reader; all = all }

abbrev pub seen_between : (out out_now : Option (List ℕ)) (faults faults_now : ℕ) (before now : Refusals) → Seen
seen_between out out_now faults faults_now before now = record { out = out; out_now = out_now; faults = faults; faults_now = faults_now; before = before; now = now }

-- the lines are those of what was asked so far
abbrev Under : {json : Bool} → Run json → List (List ℕ) → ℕ → List Line → Refusals → Refusals → Type 0
Under run read number lines before now = IsUnderWay run.model run.state.shapes (tables run.state) (asked run.reader read) (alone run.state) number lines before now

-- the lines up to those that are left are answered; their lines were pushed or are gathered
pub record IsPrinted {json : Bool} (run : Run json) (left : List (List ℕ)) (number : ℕ) (gathered : List ℕ) (seen : Seen) : Type 0 where
  pub read : List (List ℕ)
  pub lines : List Line
  pub parts : run.all ≡ read ++ left
  pub under : Under run read number lines seen.before seen.now
  pub told : AreGathered seen.out seen.out_now gathered lines seen.faults seen.faults_now

abbrev pub seen_first : Option (List ℕ) → ℕ → Refusals → Seen
seen_first out faults before = seen_between out out faults faults before before

unfoldable pub printed_none : {json : Bool} (run : Run json) (gathered : List ℕ) (out : Option (List ℕ)) (faults : ℕ) (before : Refusals) → versions run.state.log ≡ 0 → gathered ≡ []
    → IsPrinted run run.all 0 gathered (seen_first out faults before)
printed_none run gathered out faults before none empty = record {
  read = [];
  lines = [];
  parts = refl;
  under = under_way_none run.model run.state.shapes (tables run.state) before (alone run.state) (alone_before run.state none) refl [] refl;
  told = gathered_none out gathered faults empty;
}

-- the finder was asked again
abbrev pub seen_later : Seen → Refusals → Seen
seen_later seen later = record seen { now = later }

-- one line more is answered and gathered
unfoldable pub printed_more : {json : Bool} (run : Run json) (law : OneWay json) (left rest : List (List ℕ)) (number next : ℕ) (line : List ℕ) (old new : String Global) (seen : Seen) (later : Refusals) → IsPrinted run left number (string_bytes old) seen
    → left ≡ line ∷ rest → next ≡ min (number + 1) most_number → AnswersLine run.model run.state json seen.now later line next old new → IsPrinted run rest next (string_bytes new) (seen_later seen later)
printed_more {json} run law left rest number next line old new seen later so begins next-is answers =
    let one : Line = record { number = next; answer = answers.told.reply } in
    let step = request_step run.model seen.now later (alone run.state) run.state refl answers.reading answers.told.reply answers.told.answered in
    let under = under_way_more run.model run.state.shapes (tables run.state) seen.before (asked run.reader so.read) (asks answers.reading) (alone run.state) (alone run.state) number next so.lines answers.told.reply seen.now later so.under next-is step refl in
    let item : asks answers.reading ≡ asks (run.reader.request line) = ap (λ (reading : Reading). asks reading) (one_reading json law run.reader line answers.reading answers.says) in
    let said : asked run.reader so.read ++ asks answers.reading ∷ [] ≡ asked run.reader (so.read ++ line ∷ []) = ap (λ (i : Said). asked run.reader so.read ++ i ∷ []) item ∙ sym (asked_more run.reader so.read (line ∷ [])) in
    record {
      read = so.read ++ line ∷ [];
      lines = so.lines ++ one ∷ [];
      parts = so.parts ∙ ap (λ (l : List (List ℕ)). so.read ++ l) begins ∙ sym (append_assoc so.read (line ∷ []) rest);
      under = subst (λ (items : List Said). IsUnderWay run.model run.state.shapes (tables run.state) items (alone run.state) next (so.lines ++ one ∷ []) seen.before later) said under;
      told = gathered_more seen.out seen.out_now (string_bytes old) (string_bytes new) so.lines one seen.faults seen.faults_now so.told answers.told.appended;
    }

-- the finder was used so far, and at a line that is not answered
pub printed_used : {json : Bool} (run : Run json) (left : List (List ℕ)) (number : ℕ) (gathered : List ℕ) (seen : Seen) → IsPrinted run left number gathered seen → IsUsed seen.before seen.now
printed_used run left number gathered seen so = way_used run.model run.state.shapes (tables run.state) seen.before (asked run.reader so.read) (alone run.state) number so.lines seen.now so.under

pub stopped_used : {json : Bool} (run : Run json) (left : List (List ℕ)) (number : ℕ) (gathered : List ℕ) (seen : Seen) (later : Refusals) (line : List ℕ) → IsPrinted run left number gathered seen → StopsLine run.model json seen.now later line → IsUsed seen.before later
stopped_used run left number gathered seen later line so stops = record {
  more = all_refused (so.under.refused ++ stops.asked.refused ∷ []);
  refused = logged_more seen.before seen.now later so.under.refused stops.asked.refused so.under.logged stops.asked.logged;
}

-- some of what was gathered was pushed
abbrev pub seen_pushed : Seen → Option (List ℕ) → ℕ → Seen
seen_pushed seen out_now faults_now = record seen { out_now = out_now; faults_now = faults_now }

unfoldable pub printed_moved : {json : Bool} (run : Run json) (left : List (List ℕ)) (number : ℕ) (gathered still : List ℕ) (seen : Seen) (now : Option (List ℕ)) (faults : ℕ) → IsPrinted run left number gathered seen → Moves seen.out_now now gathered still → seen.faults_now ≤ faults
    → IsPrinted run left number still (seen_pushed seen now faults)
printed_moved run left number gathered still seen now faults so moved counted = record {
  read = so.read;
  lines = so.lines;
  parts = so.parts;
  under = so.under;
  told = gathered_moved seen.out seen.out_now now gathered still so.lines seen.faults seen.faults_now faults so.told moved counted;
}

-- ---- the ends

-- the input says what all its lines ask
pub says_all : {json : Bool} (run : Run json) (text : List ℕ) → IsUtf8 text → run.all ≡ requests_of text → IsRequests json text (asked run.reader run.all)
says_all run text utf8 all = record { utf8 = utf8; reader = run.reader; asked = ap (λ (lines : List (List ℕ)). asked run.reader lines) all }

-- all lines are answered and pushed
unfoldable pub printed_all : {json : Bool} (run : Run json) (text : List ℕ) (left : List (List ℕ)) (number : ℕ) (gathered : List ℕ) (seen : Seen) (now : Option (List ℕ)) → IsUtf8 text → run.all ≡ requests_of text → IsPrinted run left number gathered seen → left ≡ [] → now ≡ with_back seen.out_now gathered
    → PrintedAll (IsRequests json text) run.model run.state.shapes (tables run.state) seen.before seen.now seen.out now
printed_all run text left number gathered seen now utf8 all so none took =
    let whole : so.read ≡ run.all = sym (so.parts ∙ ap (λ (l : List (List ℕ)). so.read ++ l) none ∙ append-nil so.read) in
    record {
      printed = record {
        items = asked run.reader run.all;
        lines = so.lines;
        refused = so.under.refused;
        says = says_all run text utf8 all;
        plain = subst (λ (l : List (List ℕ)). IsPlain run.model run.state.shapes (tables run.state) (asked run.reader l) so.under.refused so.lines) whole so.under.plain;
        logged = so.under.logged;
      };
      took = all_pushed seen.out seen.out_now now gathered so.lines seen.faults seen.faults_now so.told took;
    }

-- the lines of all requests, of which the first are these
module _ {json : Bool} (law : HasVerdicts) (run : Run json) (text : List ℕ) (left : List (List ℕ)) (number : ℕ) (gathered : List ℕ) (seen : Seen) (utf8 : IsUtf8 text) (all : run.all ≡ requests_of text) (so : IsPrinted run left number gathered seen) where
  lines_with : (refused : List (List (List ℕ))) (later : Refusals) → later ≡ after_refusals seen.before (all_refused refused) → (rest : MoreLines law run.model run.state.shapes (tables run.state) (asked run.reader so.read ++ asked run.reader left) refused so.lines)
      → LinesOf (IsRequests json text) run.model run.state.shapes (tables run.state) (HasRefused seen.before later)
  lines_with refused later logged rest =
      let whole : asked run.reader so.read ++ asked run.reader left ≡ asked run.reader run.all = sym (asked_more run.reader so.read left) ∙ ap (λ (lines : List (List ℕ)). asked run.reader lines) (sym so.parts) in
      record {
        items = asked run.reader run.all;
        lines = so.lines ++ rest.more;
        refused = rest.all;
        says = says_all run text utf8 all;
        plain = subst (λ (items : List Said). IsPlain run.model run.state.shapes (tables run.state) items rest.all (so.lines ++ rest.more)) whole rest.plain;
        logged = logged ∙ ap (after_refusals seen.before) (sym rest.same);
      }

  -- memory ran out at a line
  pub printed_memory : (way : OneWay json) (line : List ℕ) (others : List (List ℕ)) (later : Refusals) (rose : Type 0) → left ≡ line ∷ others → StopsLine run.model json seen.now later line
      → PrintedSome (IsRequests json text) run.model run.state.shapes (tables run.state) seen.before later seen.out seen.out_now rose NoMemory
  unfolding lines_with
  printed_memory way line others later rose begins stops =
      let patterns = stops.asked.refused in
      let same = one_reading json way run.reader line stops.reading stops.says in
      let asks_so : Refuses run.model seen.now later (asks (run.reader.request line)) = subst (λ (reading : Reading). Refuses run.model seen.now later (asks reading)) same stops.asked in
      let more = stopped_lines law run.model run.state.shapes (tables run.state) (asks (run.reader.request line)) (asked run.reader others) (asked run.reader so.read) so.under.refused asks_so.refused so.lines asks_so.unasked so.under.plain in
      let rest = subst (λ (l : List (List ℕ)). MoreLines law run.model run.state.shapes (tables run.state) (asked run.reader so.read ++ asked run.reader l) (so.under.refused ++ asks_so.refused ∷ []) so.lines) (sym begins) more in
      record {
        printed = lines_with (so.under.refused ++ asks_so.refused ∷ []) later (logged_more seen.before seen.now later so.under.refused asks_so.refused so.under.logged asks_so.logged) rest;
        stops = stopped_first seen.out seen.out_now gathered so.lines rest.more seen.faults seen.faults_now so.told;
      }

  -- the sink failed
  pub printed_write : (now : Option (List ℕ)) (faults : ℕ) → TookFront seen.out_now now gathered → Rose seen.faults_now faults
      → PrintedSome (IsRequests json text) run.model run.state.shapes (tables run.state) seen.before seen.now seen.out now (Rose seen.faults faults) CannotWrite
  unfolding lines_with
  printed_write now faults front rose =
      let rest = more_lines law run.model run.state.shapes (tables run.state) (asked run.reader left) (asked run.reader so.read) so.under.refused so.lines so.under.plain in
      record {
        printed = lines_with so.under.refused seen.now so.under.logged rest;
        stops = (stopped_front seen.out seen.out_now now gathered so.lines rest.more seen.faults seen.faults_now so.told front, omega (arith, so.told.counted, rose));
      }

-- ---- lines that are printed already

-- their text
pub text_told : (told : List Line) → text_of (map printed_line told) ≡ text_of_lines told
text_told [] = refl
text_told (line ∷ told) = ap (λ (t : List ℕ). line_text line ++ t) (text_told told)

printed_text : (told : List Line) (printed : PrintedLines) → ArePrinted (map printed_line told) printed → printed.text.items ≡ text_of_lines told
printed_text told printed are = are.text ∙ text_told told

-- and of bytes that are their text, as far as they were pushed
pub printed_whole : (before now : Option (List ℕ)) (bytes : List ℕ) (told : List Line) (printed : PrintedLines) → bytes ≡ printed.text.items → ArePrinted (map printed_line told) printed → now ≡ with_back before bytes → now ≡ with_back before (text_of_lines told)
printed_whole before now bytes told printed is are took = took ∙ ap (λ (t : List ℕ). with_back before t) (is ∙ printed_text told printed are)

pub printed_front : (before now : Option (List ℕ)) (bytes : List ℕ) (told : List Line) (printed : PrintedLines) → bytes ≡ printed.text.items → ArePrinted (map printed_line told) printed → TookFront before now bytes → TookFront before now (text_of_lines told)
printed_front before now bytes told printed is are front = subst (λ (t : List ℕ). TookFront before now t) (is ∙ printed_text told printed are) front
