-- The edits that the calls of a script give. A call is answered against the drafts: the opening tables after the edits that were
-- given before it (Casbin, management API; here its calls wait for a publish).
use Rattle.std.specs.Prelude.{List, [], ◌∷◌, ◌++◌, length, Some, None, Ok, Err}
use Rattle.std.specs.List.{fold}
use Rattle.edit_calls.specs.Answers.{CallAnswer, answer, while_few}
use Rattle.edit_calls.specs.declared.call.Call.{Call}
use Rattle.perm_base.specs.declared.shapes.Shapes.{Shapes}
use Rattle.policy_table.specs.Changes.{replay}
use Rattle.policy_table.specs.Tables.{Policy}
use Rattle.policy_table.specs.declared.change.Change.{Change}
use Rattle.script_read.specs.Said.{Said}
use Rattle.script_read.specs.Said as said
use Rattle.version_log.specs.Log.{most_versions}

-- the edits, and one more where the answer is an edit
abbrev pub with_edit : List (List Change) → CallAnswer → List (List Change)
with_edit edits (Ok (Some edit)) = edits ++ edit ∷ []
with_edit edits (Ok None) = edits
with_edit edits (Err refused) = edits

module _ (shapes : Shapes) (opening : Policy) where
  -- what a call is answered behind these edits
  abbrev pub call_answer : List (List Change) → Call → CallAnswer
  call_answer edits call = while_few most_versions (length edits) (answer shapes (replay edits opening) call)

  -- the edits, and the one that a further item gives: calls alone give edits
  abbrev pub with_item : List (List Change) → Said → List (List Change)
  with_item edits (said.edits call) = with_edit edits (call_answer edits call)
  with_item edits _ = edits

  -- the edits that these items give, in their order
  unfoldable pub given : List Said → List (List Change)
  given items = fold with_item [] items
