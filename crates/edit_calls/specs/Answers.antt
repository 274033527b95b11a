-- The answer of a management call: a refusal, nothing to change, or an edit.
use Rattle.std.specs.Prelude.{ℕ, ◌==◌, List, Option, Some, None, Result, Ok, Err, if◌then◌else◌}
use Rattle.std.specs.Option.{option_map_or}
use Rattle.perm_base.specs.declared.shapes.Shapes.{Shapes}
use Rattle.policy_table.specs.Changes.{edited}
use Rattle.policy_table.specs.Tables.{Policy}
use Rattle.policy_table.specs.declared.change.Change.{Change}
use Rattle.policy_table.specs.Limits.{passed}
use Rattle.policy_table.specs.declared.limit.Limit.{Limit}
use Rattle.policy_table.specs.declared.limit.Limit.TheVariants.{Edits}
use Rattle.edit_calls.specs.Edits.{edit_by}
use Rattle.edit_calls.specs.Refusals.{refusal}
use Rattle.edit_calls.specs.declared.call.Call.{Call}
use Rattle.edit_calls.specs.declared.refused.CallRefused.{CallRefused}
use Rattle.edit_calls.specs.declared.refused.CallRefused.TheVariants.{Full}

abbrev pub CallAnswer : Type 0
CallAnswer = Result (Option (List Change)) CallRefused

-- the edit, unless the tables after it pass a limit
abbrev pub within : Shapes → Policy → List Change → CallAnswer
within shapes policy edit = option_map_or (λ (limit : Limit). Err (Full limit)) (passed shapes (edited edit policy)) (Ok (Some edit))

-- a refusal; else the edit, where there is one
abbrev pub answer : Shapes → Policy → Call → CallAnswer
answer shapes policy call = option_map_or (λ (refused : CallRefused). Err refused) (refusal shapes call)
    (option_map_or (λ (edit : List Change). within shapes policy edit) (edit_by shapes policy call) (Ok None))

-- an answer behind so many edits, of which there may be so many at most: one edit more is refused where there are as many
abbrev pub while_few : (most count : ℕ) → CallAnswer → CallAnswer
while_few most count (Ok (Some edit)) = if count == most then Err (Full Edits) else Ok (Some edit)
while_few most count (Ok None) = Ok None
while_few most count (Err refused) = Err refused
