-- The numbers that calls answer; those from 2 to 9 are the program's statuses.
use Rattle.std.specs.Prelude.{ℕ, Bool, true, false, Result, Ok, Err}
use Rattle.enforce_core.specs.declared.stops.AskStop.{AskStop}
use Rattle.enforce_core.specs.declared.stops.AskStop.TheVariants as ask
use Rattle.enforce_core.specs.declared.stops.CallStop.{CallStop}
use Rattle.enforce_core.specs.declared.stops.CallStop.TheVariants as call
use Rattle.enforce_core.specs.declared.stops.Called.{Called}
use Rattle.enforce_core.specs.declared.stops.Decided.{Decided}

abbrev pub ok : ℕ
ok = 0

abbrev pub closed : ℕ
closed = 1

abbrev pub no_memory : ℕ
no_memory = 9

abbrev pub no_request : ℕ
no_request = 10

abbrev pub no_room : ℕ
no_room = 12

abbrev pub no_rule : ℕ
no_rule = 13

-- what asking a request answers
abbrev pub code_of_ask_stop : AskStop → ℕ
code_of_ask_stop ask.NoMemory = no_memory
code_of_ask_stop _ = no_request

abbrev pub code_of_ask : Result Decided AskStop → ℕ
code_of_ask (Ok decided) = ok
code_of_ask (Err stop) = code_of_ask_stop stop

-- what a call answers
abbrev pub code_of_done : Bool → ℕ
code_of_done true = 11
code_of_done false = ok

abbrev pub code_of_stop : CallStop → ℕ
code_of_stop (call.NoScript fault) = 5
code_of_stop call.NoItem = 5
code_of_stop call.Snapshot = 15
code_of_stop call.NoMemory = no_memory
code_of_stop call.Untold = 14

abbrev pub code_of_call : Result Called CallStop → ℕ
code_of_call (Ok done) = code_of_done done.refused
code_of_call (Err stop) = code_of_stop stop

-- what a publish answers
abbrev pub code_of_publish : Result ℕ CallStop → ℕ
code_of_publish (Ok version) = ok
code_of_publish (Err stop) = code_of_stop stop
