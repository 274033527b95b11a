-- What a desk answers, and when it is an edit.
use Rattle.std.proofs.Common.{◌≡◌, List, Option, Some, None, Ok, Err, refl, subst}
use Rattle.std.specs.Option.{option_map_or}
use Rattle.edit_calls.specs.Answers.{CallAnswer, answer, within}
use Rattle.edit_calls.specs.Edits.{edit_by}
use Rattle.edit_calls.specs.Refusals.{refusal}
use Rattle.edit_calls.specs.declared.call.Call.{Call}
use Rattle.edit_calls.specs.declared.refused.CallRefused.{CallRefused}
use Rattle.edit_calls.specs.declared.refused.CallRefused.TheVariants.{Full}
use Rattle.perm_base.specs.declared.shapes.Shapes.{Shapes}
use Rattle.policy_table.specs.Changes.{edited}
use Rattle.policy_table.specs.Limits.{passed}
use Rattle.policy_table.specs.Tables.{Policy}
use Rattle.policy_table.specs.declared.change.Change.{Change}
use Rattle.policy_table.specs.declared.limit.Limit.{Limit}

-- the call is not refused, this is its edit, and the tables after it pass no limit
pub record IsFound (shapes : Shapes) (policy : Policy) (call : Call) (edit : List Change) : Type 0 where
  pub passes : refusal shapes call ≡ None
  pub is : edit_by shapes policy call ≡ Some edit
  pub within : passed shapes (edited edit policy) ≡ None

-- an answer that is an edit
pub found : (shapes : Shapes) (policy : Policy) (call : Call) (edit : List Change) → answer shapes policy call ≡ Ok (Some edit) → IsFound shapes policy call edit
found shapes policy call edit = by_refusal (refusal shapes call) refl
  where
    limited : List Change → Option Limit → CallAnswer
    limited one limit = option_map_or (λ (l : Limit). Err (Full l)) limit (Ok (Some one))

    by_limit : (one : List Change) (limit : Option Limit) → refusal shapes call ≡ None → edit_by shapes policy call ≡ Some one → passed shapes (edited one policy) ≡ limit
        → limited one limit ≡ Ok (Some edit) → IsFound shapes policy call edit
    by_limit one None passes is none told = subst (IsFound shapes policy call) (let same : one ≡ edit = cc in same) (record { passes = passes; is = is; within = none })
    by_limit one (Some limit) passes is full told = absurd cc

    by_edit : (one : Option (List Change)) → refusal shapes call ≡ None → edit_by shapes policy call ≡ one
        → option_map_or (λ (e : List Change). within shapes policy e) one (Ok None) ≡ Ok (Some edit) → IsFound shapes policy call edit
    by_edit None passes is told = absurd cc
    by_edit (Some one) passes is told = by_limit one (passed shapes (edited one policy)) passes is refl told

    by_refusal : (refused : Option CallRefused) → refusal shapes call ≡ refused
        → option_map_or (λ (r : CallRefused). Err r) refused (option_map_or (λ (e : List Change). within shapes policy e) (edit_by shapes policy call) (Ok None)) ≡ Ok (Some edit) → IsFound shapes policy call edit
    by_refusal None passes told = by_edit (edit_by shapes policy call) passes refl told
    by_refusal (Some refused) passes told = absurd cc
