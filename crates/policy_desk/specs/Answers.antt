-- The answer of a management call at a desk, and what it leaves.
use Rattle.std.specs.Prelude.{◌≡◌, Bool, List, [], ◌∷◌, ◌++◌, Some, None, is_some, Ok, Err}
use Rattle.edit_calls.specs.Answers.{CallAnswer, answer, while_few}
use Rattle.edit_calls.specs.declared.call.Call.{Call}
use Rattle.policy_desk.specs.Desks.{Work, edits_of}
use Rattle.policy_table.specs.Changes.{edited}
use Rattle.policy_table.specs.Tables.{Policy}
use Rattle.policy_table.specs.declared.change.Change.{Change}
use Rattle.version_log.specs.Log.{most_versions}

-- what the drafts answer, while there are few edits
abbrev pub desk_answer : Work → Call → CallAnswer
desk_answer desk call = while_few most_versions (edits_of desk) (answer desk.state.shapes desk.drafts call)

-- the call is not refused, and it is said whether it changes something
abbrev pub IsAnswered : CallAnswer → Bool → Type 0
IsAnswered (Ok edit) changed = changed ≡ is_some edit
IsAnswered (Err refused) changed = ⊥

-- the pending edits after a call: one more where it changes something
abbrev pub pending_after : CallAnswer → List (List Change) → List (List Change)
pending_after (Ok (Some edit)) pending = pending ++ edit ∷ []
pending_after (Ok None) pending = pending
pending_after (Err refused) pending = pending

-- the drafts after a call
abbrev pub drafts_after : CallAnswer → Policy → Policy
drafts_after (Ok (Some edit)) drafts = edited edit drafts
drafts_after (Ok None) drafts = drafts
drafts_after (Err refused) drafts = drafts
