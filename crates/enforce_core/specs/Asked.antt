-- What a request is answered, given as texts or as a line of JSON (Casbin, enforce).
use Rattle.std.specs.Prelude.{◌≡◌, ◌≢◌, ℕ, ◌<◌, ⊤, false, true, List, Result, Ok, Err, IfErr, IfOk, IsUtf8, length, map}
use Rattle.decision.specs.Decisions.{IsJudgedWith, RefusedIn}
use Rattle.matcher_meaning.specs.Verdicts.{IsJudged}
use Rattle.model_conf.specs.ModelText.{ModelParts}
use Rattle.perm_value.specs.Datum.{Datum, text}
use Rattle.perm_value.specs.declared.request.RequestFault.{RequestFault}
use Rattle.perm_value.specs.declared.request.RequestFault.TheVariants as fault
use Rattle.policy_state.specs.States.{State, tables}
use Rattle.regex_gate.specs.Refusals.{IsRefused, IsUsed, Refusals}
use Rattle.script_read.specs.Reads.{Says}
use Rattle.version_log.specs.Log.{versions}
use Rattle.enforce_core.specs.Pieces.{AreEnds, IsBadPiece, pieces_of, rise}
use Rattle.enforce_core.specs.declared.stops.AskStop.{AskStop}
use Rattle.enforce_core.specs.declared.stops.AskStop.TheVariants as stop
use Rattle.enforce_core.specs.declared.stops.Decided.{Decided}

-- what is read as a request: its values, or why there are none
abbrev pub Reading : Type 0
Reading = Result (List Datum) AskStop

-- ---- readings

-- the greatest number of texts of a request
abbrev pub most_texts : ℕ
most_texts = 34

-- why texts are no request
abbrev pub CutStops : (bytes ends : List ℕ) → AskStop → Type 0
CutStops bytes ends stop.Ends = rise 0 (length bytes) ends ≡ false
CutStops bytes ends (stop.NotUtf8 field) = IsBadPiece bytes ends field
CutStops bytes ends (stop.Request fault.TooMany) = most_texts < length ends
CutStops bytes ends stop.NoMemory = ⊤
CutStops bytes ends _ = ⊥

-- texts that lie one behind the other are these values, a text each
abbrev pub ReadsTexts : (bytes ends : List ℕ) → Reading → Type 0
ReadsTexts bytes ends (Ok values) = AreEnds bytes ends × (values ≡ map text (pieces_of bytes ends))
ReadsTexts bytes ends (Err why) = CutStops bytes ends why

-- the stop that comes of a line that is no request
abbrev pub ask_stop_of : RequestFault → AskStop
ask_stop_of fault.NoMemory = stop.NoMemory
ask_stop_of other = stop.Request other

-- why a line of JSON is no request
abbrev pub LineStops : List ℕ → AskStop → Type 0
LineStops line (stop.NotUtf8 field) = (field ≡ 1) × ¬ (IsUtf8 line)
LineStops line (stop.Request why) = Says true line (Err why)
LineStops line stop.NoMemory = ⊤
LineStops line _ = ⊥

-- the line says these values
abbrev pub ReadsLine : (line : List ℕ) → Reading → Type 0
ReadsLine line (Ok values) = Says true line (Ok values)
ReadsLine line (Err why) = LineStops line why

-- ---- answers

-- the verdict is judged over the policy, whose version is told (PERM: request, policy, matchers, effect), and the finder refused in
-- between what the verdict says
pub record IsDecidedBy (model : ModelParts) (state : State) (before now : Refusals) (values : List Datum) (decided : Decided) : Type 0 where
  pub fits : length values ≡ length model.request
  pub version_is : decided.version ≡ versions state.log
  pub judged : IsJudged model state.shapes (tables state) values (IsRefused before now) decided.verdict
  pub refused : IsJudgedWith model state.shapes (tables state) values (RefusedIn model.effect before now) decided.verdict

-- why these values were not judged
abbrev pub ValuesStop : ModelParts → (before now : Refusals) → List Datum → AskStop → Type 0
ValuesStop model before now values (stop.Arity got want) = (length values ≢ length model.request) × (got ≡ length values) × (want ≡ length model.request) × (now ≡ before)
ValuesStop model before now values stop.NoMemory = ⊤
ValuesStop model before now values _ = ⊥

-- what values come to
pub record AsksValues (model : ModelParts) (state : State) (before now : Refusals) (values : List Datum) (result : Result Decided AskStop) : Type 0 where
  pub decided : IfOk result (IsDecidedBy model state before now values)
  pub stopped : IfErr result (ValuesStop model before now values)
  pub used : IsUsed before now

-- what a reading comes to: where there are no values it is told why, and the finder is not asked
abbrev pub AsksReading : ModelParts → State → (before now : Refusals) → Reading → Result Decided AskStop → Type 0
AsksReading model state before now (Ok values) result = AsksValues model state before now values result
AsksReading model state before now (Err why) result = (result ≡ Err why) × (now ≡ before)

-- what is asked is read, and answered by this policy
pub record Asks (Reads : Reading → Type 0) (model : ModelParts) (state : State) (before now : Refusals) (result : Result Decided AskStop) : Type 0 where
  pub reading : Reading
  pub reads : Reads reading
  pub answered : AsksReading model state before now reading result
