-- What explaining lines of requests comes to, and texts that are gathered piece by piece.
use Rattle.std.specs.Prelude.{◌≡◌, ◌⊎◌, ◌≤◌, ℕ, Bool, List, ◌++◌, Option, Result, IfErr, OnOk, String, take}
use Rattle.std.specs.declared.alloc.Global.{Global}
use Rattle.answer_lines.specs.LineText.{Appends, line_text}
use Rattle.answer_lines.specs.declared.answer.Answer.{Answer}
use Rattle.desk_session.specs.Requests.{IsAnsweredBy, Refuses}
use Rattle.model_conf.specs.ModelText.{ModelParts}
use Rattle.outside.specs.Faults.{Rose}
use Rattle.outside.specs.Told.{TookFront, with_back}
use Rattle.perm_base.specs.declared.shapes.Shapes.{Shapes}
use Rattle.policy_state.specs.States.{State, tables}
use Rattle.policy_table.specs.Tables as table
use Rattle.regex_gate.specs.Refusals.{IsUsed, Refusals}
use Rattle.run_status.specs.declared.stop.Stop.{Stop}
use Rattle.run_status.specs.declared.stop.Stop.TheVariants.{CannotWrite, NoMemory}
use Rattle.script_read.specs.Reads.{Says}
use Rattle.script_read.specs.Said.{Reading, Said, asks}
use Rattle.session_meaning.specs.Plain.{all_refused}
use Rattle.loaded_work.specs.Explained.{IsBelow, IsExplained}
use Rattle.loaded_work.specs.Finders.{HasRefused}
use Rattle.loaded_work.specs.Texts.{joined}
use Rattle.loaded_work.specs.Sinks.{Taken}

-- ---- one request

-- what stands below the line of a request was appended, and the finder refused this meanwhile
pub record TellsBelow (parts : List ModelParts) (most : ℕ) (model : ModelParts) (state : State) (before now : Refusals) (reading : Reading) (old new : String Global) : Type 0 where
  pub asked : Refuses model before now (asks reading)
  pub below : List ℕ
  pub is : IsBelow parts most model state.shapes (tables state) (asks reading) asked.refused below
  pub appended : Appends old new below

-- a request is answered by its line and what stands below it
pub record TellsExplained (parts : List ModelParts) (most : ℕ) (model : ModelParts) (state : State) (before now : Refusals) (reading : Reading) (number : ℕ) (old new : String Global) : Type 0 where
  pub reply : Answer
  pub answered : IsAnsweredBy model state before now reading reply
  pub below : List ℕ
  pub is : IsBelow parts most model state.shapes (tables state) (asks reading) answered.asked.refused below
  pub appended : Appends old new (line_text (record { number = number; answer = reply }) ++ below)

-- a line of requests is
pub record ExplainsLine (parts : List ModelParts) (most : ℕ) (model : ModelParts) (state : State) (json : Bool) (before now : Refusals) (line : List ℕ) (number : ℕ) (old new : String Global) : Type 0 where
  pub reading : Reading
  pub says : Says json line reading
  pub told : TellsExplained parts most model state before now reading number old new

-- ---- pieces

-- of these pieces the first ones were pushed, and the others are gathered
pub record ArePushed (before now : Option (List ℕ)) (gathered : List ℕ) (pieces : List (List ℕ)) (faults_before faults_now : ℕ) : Type 0 where
  pub pushed : List (List ℕ)
  pub waiting : List (List ℕ)
  pub parts : pieces ≡ pushed ++ waiting
  pub took : now ≡ with_back before (joined pushed)
  pub text : gathered ≡ joined waiting
  pub counted : faults_before ≤ faults_now

-- why pieces were not pushed to their end: the sink took a front of their text, or the first so many of them
abbrev pub PiecesStop : Option (List ℕ) → Option (List ℕ) → List (List ℕ) → (out_rose : Type 0) → Stop → Type 0
PiecesStop out out_now pieces out_rose CannotWrite = TookFront out out_now (joined pieces) × out_rose
PiecesStop out out_now pieces out_rose NoMemory = (count : ℕ) × (out_now ≡ with_back out (joined (take count pieces)))
PiecesStop out out_now pieces out_rose _ = ⊥

-- ---- all requests

-- requests that are said have these pieces, and of all that was refused for them, one after the other, this holds
pub record PiecesOf (IsSaid : List Said → Type 0) (most : ℕ) (model : ModelParts) (shapes : Shapes) (policy : table.Policy) (IsLogged : List (List ℕ) → Type 0) : Type 0 where
  pub items : List Said
  pub refused : List (List (List ℕ))
  pub pieces : List (List ℕ)
  pub says : IsSaid items
  pub explained : IsExplained most model shapes policy items refused pieces (joined pieces)
  pub logged : IsLogged (all_refused refused)

-- pieces of which the sink took the whole text, or not
pub record ExplainedAll (IsSaid : List Said → Type 0) (most : ℕ) (model : ModelParts) (shapes : Shapes) (policy : table.Policy) (before now : Refusals) (out out_now : Option (List ℕ)) : Type 0 where
  pub printed : PiecesOf IsSaid most model shapes policy (HasRefused before now)
  pub took : out_now ≡ with_back out (joined printed.pieces)

pub record ExplainedSome (IsSaid : List Said → Type 0) (most : ℕ) (model : ModelParts) (shapes : Shapes) (policy : table.Policy) (before now : Refusals) (out out_now : Option (List ℕ)) (out_rose : Type 0) (stop : Stop) : Type 0 where
  pub printed : PiecesOf IsSaid most model shapes policy (HasRefused before now)
  pub stops : PiecesStop out out_now printed.pieces out_rose stop

-- why requests were not explained to their end: memory ran out before any piece was pushed, or while they were
abbrev pub ExplainStops : (IsSaid : List Said → Type 0) → ℕ → ModelParts → Shapes → table.Policy → (before now : Refusals) → (out out_now : Option (List ℕ)) → (out_rose : Type 0) → Stop → Type 0
ExplainStops IsSaid most model shapes policy before now out out_now out_rose stop = ((stop ≡ NoMemory) × (out_now ≡ out)) ⊎ ExplainedSome IsSaid most model shapes policy before now out out_now out_rose stop

-- what explaining the requests that are said comes to
pub record AreExplained (IsSaid : List Said → Type 0) (most : ℕ) (model : ModelParts) (shapes : Shapes) (policy : table.Policy) (before now : Refusals) (out out_now : Taken) (result : Result (Unit {0}) Stop) : Type 0 where
  pub printed : OnOk result (ExplainedAll IsSaid most model shapes policy before now out.bytes out_now.bytes)
  pub stopped : IfErr result (ExplainStops IsSaid most model shapes policy before now out.bytes out_now.bytes (Rose out.faults out_now.faults))
  pub counted : out.faults ≤ out_now.faults
  pub used : IsUsed before now
