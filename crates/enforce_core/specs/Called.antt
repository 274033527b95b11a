-- What one item comes to that a text says and that is no request (Casbin, management API), and what a publish comes to.
use Rattle.std.specs.Prelude.{◌≡◌, ℕ, Bool, true, false, not, List, [], ◌∷◌, Result, Ok, Err, IfErr, IfOk}
use Rattle.answer_lines.specs.LineText.{line_text}
use Rattle.answer_lines.specs.declared.answer.Answer.{Answer}
use Rattle.answer_lines.specs.declared.answer.Answer.TheVariants as answer
use Rattle.desk_session.specs.Steps.{IsPlainStep, IsStopped, is_request}
use Rattle.policy_desk.specs.Desks.{Work, floor_after}
use Rattle.policy_desk.specs.Transitions.{IsBegun, IsPublished}
use Rattle.script_read.specs.Said.{Said}
use Rattle.script_read.specs.Script.{IsScript, IsScriptFault}
use Rattle.script_read.specs.declared.fault.ScriptFault.{ScriptFault}
use Rattle.script_read.specs.declared.fault.ScriptFault.TheVariants as script
use Rattle.version_log.specs.Log.{versions}
use Rattle.enforce_core.specs.Places.{Place, at_desk, shows}
use Rattle.enforce_core.specs.declared.stops.CallStop.{CallStop}
use Rattle.enforce_core.specs.declared.stops.CallStop.TheVariants as stop
use Rattle.enforce_core.specs.declared.stops.Called.{Called}

-- the stop that comes of a text that is no script
abbrev pub call_stop_of : ScriptFault → CallStop
call_stop_of script.NoMemory = stop.NoMemory
call_stop_of other = stop.NoScript other

-- a refusal
abbrev pub is_refused : Answer → Bool
is_refused (answer.Arity got want) = true
is_refused (answer.Request fault) = true
is_refused (answer.Call refused) = true
is_refused (answer.Query refused) = true
is_refused _ = false

-- there is one item, and it is no request
abbrev pub are_one : List Said → Bool
are_one [] = false
are_one (item ∷ []) = not (is_request item)
are_one (item ∷ other ∷ others) = false

-- the text says this one item, which is no request
pub record SaysOne (text : List ℕ) (item : Said) : Type 0 where
  pub says : IsScript false text (item ∷ [])
  pub other : is_request item ≡ false

-- the text says items, and not one such
pub record SaysNone (text : List ℕ) : Type 0 where
  pub items : List Said
  pub says : IsScript false text items
  pub none : are_one items ≡ false

-- the item was done at the desk, as an item of a session
pub record IsDone (old new : Work) (item : Said) : Type 0 where
  pub reply : Answer
  pub step : IsPlainStep item old new reply

-- besides, it is told by the line of a session of this one item
pub record IsTold (old new : Work) (item : Said) (called : Called) : Type 0 where
  pub done : IsDone old new item
  pub refused : called.refused ≡ is_refused done.reply
  pub line : called.line ≡ line_text (record { number = 1; answer = done.reply })

-- what a text comes to at a desk. Where memory ran out before anything was done, the desk stands where it stood
abbrev pub CallsAt : (old new : Work) → (text : List ℕ) → Result Called CallStop → Type 0
CallsAt old new text (Ok called) = (item : Said) × SaysOne text item × IsTold old new item called
CallsAt old new text (Err (stop.NoScript fault)) = IsScriptFault false text fault × (new ≡ old)
CallsAt old new text (Err stop.NoItem) = SaysNone text × (new ≡ old)
CallsAt old new text (Err stop.Snapshot) = ⊥
CallsAt old new text (Err stop.NoMemory) = IsStopped old new
CallsAt old new text (Err stop.Untold) = (item : Said) × SaysOne text item × IsDone old new item

-- the same of an enforcer: a snapshot stays as it is
abbrev pub CallsTo : (old new : Place) → (text : List ℕ) → Result Called CallStop → Type 0
CallsTo (at_desk old) (at_desk new) text result = CallsAt old new text result
CallsTo (shows old) (shows new) text result = (new ≡ old) × (result ≡ Err stop.Snapshot)
CallsTo (at_desk old) (shows new) text result = ⊥
CallsTo (shows old) (at_desk new) text result = ⊥

-- ---- publishes

-- the pending edits are published and the new version is told, or memory ran out and nothing is published
pub record PublishesAt (old new : Work) (result : Result ℕ CallStop) : Type 0 where
  pub version : IfOk result (λ version. version ≡ versions new.state.log)
  pub published : IfOk result (λ version. IsPublished (floor_after old) old new)
  pub stopped : IfErr result (λ why. (why ≡ stop.NoMemory) × IsBegun old new)

-- the same of an enforcer: a snapshot publishes nothing
abbrev pub PublishesTo : (old new : Place) → Result ℕ CallStop → Type 0
PublishesTo (at_desk old) (at_desk new) result = PublishesAt old new result
PublishesTo (shows old) (shows new) result = (new ≡ old) × (result ≡ Err stop.Snapshot)
PublishesTo (at_desk old) (shows new) result = ⊥
PublishesTo (shows old) (at_desk new) result = ⊥
