-- What calls tell, by their codes and through the caller's room.
use Rattle.std.specs.Prelude.{◌≡◌, ◌⊎◌, ℕ, ◌≤◌, ◌<◌, ◌++◌, List, Option, Some, None, Result, Ok, Err, IfOk, drop, length}
use Rattle.enforce_core.specs.declared.stops.AskStop.{AskStop}
use Rattle.enforce_core.specs.declared.stops.CallStop.{CallStop}
use Rattle.enforce_core.specs.declared.stops.CallStop.TheVariants as call
use Rattle.enforce_core.specs.declared.stops.Called.{Called}
use Rattle.enforce_core.specs.declared.stops.Decided.{Decided}
use Rattle.outside.specs.declared.fault.NoMemory.{NoMemory}
use Rattle.run_status.specs.Messages.{line_of}
use Rattle.run_status.specs.declared.stop.Stop.{Stop}
use Rattle.run_status.specs.declared.stop.Stop.TheVariants.{NoScript}
use Rattle.casbin_c.specs.Codes.{code_of_ask, code_of_call, code_of_publish, no_memory, no_room, no_rule, ok}
use Rattle.casbin_c.specs.Decisions.{decision_of}
use Rattle.casbin_c.specs.declared.decisions.Decision.{Decision}

-- ---- texts in a room

-- the text stands at the start of the room
pub record Fits (text old new : List ℕ) (code : ℕ) : Type 0 where
  pub code_is : code ≡ ok
  pub within : length text ≤ length old
  pub room : new ≡ text ++ drop (length text) old

-- the room is too small, and as it was
pub record Exceeds (text old new : List ℕ) (code : ℕ) : Type 0 where
  pub code_is : code ≡ no_room
  pub past : length old < length text
  pub room : new ≡ old

-- the text is written where it fits, and its length is told
pub record Writes (text old new : List ℕ) (code size : ℕ) : Type 0 where
  pub told : size ≡ length text
  pub written : Fits text old new code ⊎ Exceeds text old new code

-- the same, whatever code is answered
abbrev pub WritesLine : (text old new : List ℕ) (size : ℕ) → Type 0
WritesLine text old new size = (fitting : ℕ) × Writes text old new fitting size

-- nothing is told
abbrev pub WritesNothing : (old new : List ℕ) (size : ℕ) → Type 0
WritesNothing old new size = (size ≡ 0) × (new ≡ old)

-- the line of a stop is told, or nothing for want of memory
abbrev pub WritesStop : Stop → (old new : List ℕ) (size : ℕ) → Type 0
WritesStop stop old new size = WritesLine (line_of stop) old new size ⊎ WritesNothing old new size

-- the code says why nothing is told, and the room and its length are as they were
pub record Keeps (why code : ℕ) (old new : List ℕ) (size_old size_new : ℕ) : Type 0 where
  pub code_is : code ≡ why
  pub room : new ≡ old
  pub size : size_new ≡ size_old

-- ---- requests

-- the code and the decision tell an answer of which this holds
pub record TellsAnswer (Answers : Result Decided AskStop → Type 0) (code : ℕ) (old new : Decision) : Type 0 where
  pub answered : Result Decided AskStop
  pub answers : Answers answered
  pub code_is : code ≡ code_of_ask answered
  pub decision_is : new ≡ decision_of old answered

-- ---- calls

-- why a text is no script, as the program stops
abbrev pub told_stop : CallStop → Option Stop
told_stop (call.NoScript fault) = Some (NoScript fault)
told_stop _ = None

-- the line of a stop is told, where there is one
abbrev pub WritesTold : Option Stop → (old new : List ℕ) (size : ℕ) → Type 0
WritesTold (Some stop) old new size = WritesStop stop old new size
WritesTold None old new size = WritesNothing old new size

-- what is told of a call: the line of its answer, or why there is none
abbrev pub WritesCall : Result Called CallStop → (old new : List ℕ) (size : ℕ) → Type 0
WritesCall (Ok done) old new size = WritesLine done.line old new size
WritesCall (Err stop) old new size = WritesTold (told_stop stop) old new size

-- the code and the room tell a call of which this holds
pub record TellsCall (Calls : Result Called CallStop → Type 0) (code : ℕ) (old new : List ℕ) (size : ℕ) : Type 0 where
  pub called : Result Called CallStop
  pub calls : Calls called
  pub code_is : code ≡ code_of_call called
  pub written : WritesCall called old new size

-- the version that is told: where nothing is published it is as it was
abbrev pub version_of : ℕ → Result ℕ CallStop → ℕ
version_of old (Ok version) = version
version_of old (Err stop) = old

-- the code and the version tell a publish of which this holds
pub record TellsVersion (Publishes : Result ℕ CallStop → Type 0) (code old new : ℕ) : Type 0 where
  pub published : Result ℕ CallStop
  pub publishes : Publishes published
  pub code_is : code ≡ code_of_publish published
  pub version_is : new ≡ version_of old published

-- ---- rules and policies

-- a rule that was shown is written, where there is one
abbrev pub WritesRule : Result (Option (List ℕ)) NoMemory → (code : ℕ) (old new : List ℕ) (size_old size_new : ℕ) → Type 0
WritesRule (Ok (Some text)) code old new size_old size_new = Writes text old new code size_new
WritesRule (Ok None) code old new size_old size_new = Keeps no_rule code old new size_old size_new
WritesRule (Err e) code old new size_old size_new = Keeps no_memory code old new size_old size_new

-- this text is shown, or that there is none, or memory ran out
pub record TellsRule (text : Option (List ℕ)) (code : ℕ) (old new : List ℕ) (size_old size_new : ℕ) : Type 0 where
  pub shown : Result (Option (List ℕ)) NoMemory
  pub is : IfOk shown (λ found. found ≡ text)
  pub written : WritesRule shown code old new size_old size_new

-- a policy that was shown is written
abbrev pub WritesPolicy : Result (List ℕ) NoMemory → (code : ℕ) (old new : List ℕ) (size_old size_new : ℕ) → Type 0
WritesPolicy (Ok text) code old new size_old size_new = Writes text old new code size_new
WritesPolicy (Err e) code old new size_old size_new = Keeps no_memory code old new size_old size_new

-- this text is shown, or memory ran out
pub record TellsPolicy (text : List ℕ) (code : ℕ) (old new : List ℕ) (size_old size_new : ℕ) : Type 0 where
  pub shown : Result (List ℕ) NoMemory
  pub is : IfOk shown (λ found. found ≡ text)
  pub written : WritesPolicy shown code old new size_old size_new
