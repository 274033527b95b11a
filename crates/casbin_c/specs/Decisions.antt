-- What a request was answered, as C reads it.
use Rattle.std.specs.Prelude.{ℕ, Option, Result, Ok, Err, unwrap_or}
use Rattle.effect_fold.specs.declared.fault.Cause.{Cause}
use Rattle.effect_fold.specs.declared.fault.Cause.TheVariants as cause
use Rattle.effect_fold.specs.declared.verdict.Verdict.{Verdict}
use Rattle.effect_fold.specs.declared.verdict.Verdict.TheVariants.{Allow, Deny, Fault}
use Rattle.enforce_core.specs.declared.stops.AskStop.{AskStop}
use Rattle.enforce_core.specs.declared.stops.AskStop.TheVariants as stop
use Rattle.enforce_core.specs.declared.stops.Decided.{Decided}
use Rattle.perm_value.specs.declared.request.RequestFault.{RequestFault}
use Rattle.perm_value.specs.declared.request.RequestFault.TheVariants as fault
use Rattle.casbin_c.specs.declared.decisions.Decision.{Decision}

-- one of a version, with the number of the row, from 1, or 0 for none
abbrev pub decision_with : (kind version : ℕ) → Option ℕ → (cause at : ℕ) → Decision
decision_with kind version row cause at = record { kind = kind; version = version; row = unwrap_or row 0; cause = cause; at = at }

-- why an evaluation failed
abbrev pub cause_number : Cause → ℕ
cause_number cause.Kind = 1
cause_number cause.NoAttribute = 2
cause_number cause.Overflow = 3
cause_number cause.ZeroDivisor = 4
cause_number cause.BadAddress = 5
cause_number cause.BadBlock = 6
cause_number cause.Pattern = 7
cause_number cause.RuleText = 8

-- a verdict of a version
abbrev pub verdict_decision : ℕ → Verdict → Decision
verdict_decision version (Deny row) = decision_with 0 version row 0 0
verdict_decision version (Allow row) = decision_with 1 version row 0 0
verdict_decision version (Fault row failed) = decision_with 2 version row (cause_number failed.cause) failed.at

-- no request
abbrev pub none_asked : (cause at : ℕ) → Decision
none_asked cause at = record { kind = 3; version = 0; row = 0; cause = cause; at = at }

-- why a line is no request, and where; want of memory is told by the code alone
abbrev pub fault_decision : RequestFault → Decision
fault_decision (fault.Quote column) = none_asked 3 column
fault_decision fault.TooMany = none_asked 4 0
fault_decision fault.Syntax = none_asked 5 0
fault_decision fault.NotAnArray = none_asked 6 0
fault_decision (fault.TooDeep field) = none_asked 7 field
fault_decision (fault.NotWhole field) = none_asked 8 field
fault_decision fault.NoMemory = none_asked 0 0

-- why a request was not judged; for want of memory nothing is told
abbrev pub stop_decision : Decision → AskStop → Decision
stop_decision old stop.Ends = none_asked 1 0
stop_decision old (stop.NotUtf8 field) = none_asked 2 field
stop_decision old (stop.Request why) = fault_decision why
stop_decision old (stop.Arity got want) = none_asked 9 got
stop_decision old stop.NoMemory = old

-- what is told of an answer
abbrev pub decision_of : Decision → Result Decided AskStop → Decision
decision_of old (Ok decided) = verdict_decision decided.version decided.verdict
decision_of old (Err why) = stop_decision old why
