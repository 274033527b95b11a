-- What a call must meet before its edit is looked for, which its first refusals see to.
use Rattle.std.specs.Prelude.{◌+◌, ◌<◌, ◌≤◌, ⊤, length, All}
use Rattle.perm_base.specs.declared.shapes.Shapes.{Shapes}
use Rattle.perm_base.specs.declared.shapes.TableId.TheVariants.{P, G}
use Rattle.policy_table.specs.Tables.{Fields, Policy, rows}
use Rattle.edit_calls.specs.declared.call.Call.{Call}
use Rattle.edit_calls.specs.declared.call.Call.TheVariants.{Add, AddAll, AddEx, Remove, RemoveAll, Update, RemoveFiltered, UpdateFiltered, DeleteUser, DeleteRole}

-- filters lie within the rules of their table; the rules of g have two names, and those of p a subject
abbrev pub AreFitted : Shapes → Policy → Call → Type 0
AreFitted shapes policy (Add table rule) = ⊤
AreFitted shapes policy (AddAll table rules) = ⊤
AreFitted shapes policy (AddEx table rules) = ⊤
AreFitted shapes policy (Remove table rule) = ⊤
AreFitted shapes policy (RemoveAll table rules) = ⊤
AreFitted shapes policy (Update table pairs) = ⊤
AreFitted shapes policy (RemoveFiltered table at values) = All (λ (rule : Fields). at + length values ≤ length rule) (rows policy table)
AreFitted shapes policy (UpdateFiltered table at values rules) = All (λ (rule : Fields). at + length values ≤ length rule) (rows policy table)
AreFitted shapes policy (DeleteUser name) = All (λ (rule : Fields). 1 < length rule) (rows policy (G 1)) × All (λ (rule : Fields). shapes.subject_column < length rule) (rows policy P)
AreFitted shapes policy (DeleteRole name) = All (λ (rule : Fields). 1 < length rule) (rows policy (G 1)) × All (λ (rule : Fields). shapes.subject_column < length rule) (rows policy P)
