-- Places of rules that are known beforehand, by which a call goes over few rules in place of all.
use Rattle.std.specs.Prelude.{◌≡◌, ℕ, ◌<◌, ⊤, List, [], ◌∷◌, All, IfSome, Option, get_or, length, map}
use Rattle.perm_base.specs.declared.shapes.Shapes.{Shapes}
use Rattle.perm_base.specs.declared.shapes.TableId.TheVariants.{P, G}
use Rattle.policy_table.specs.Tables.{Fields, Policy, rows}
use Rattle.edit_calls.specs.Edits.{fitting}
use Rattle.edit_calls.specs.declared.call.Call.{Call}
use Rattle.edit_calls.specs.declared.call.Call.TheVariants.{Add, AddAll, AddEx, Remove, RemoveAll, Update, RemoveFiltered, UpdateFiltered, DeleteUser, DeleteRole}

-- the rules at places
abbrev pub rules_at : List Fields → List ℕ → List Fields
rules_at rules places = map (λ (place : ℕ). get_or rules place []) places

-- a filter picks from the rules at these places what it picks from all
pub record FindFitting (at : ℕ) (values : Fields) (rules : List Fields) (places : List ℕ) : Type 0 where
  pub within : All (λ (place : ℕ). place < length rules) places
  pub same : fitting at values (rules_at rules places) ≡ fitting at values rules

-- the places that are known, or none: those of rules of the call's table, and of rules of p whose subject is the call's name
pub record KnownPlaces : Type 0 where
  pub rules : Option (List ℕ)
  pub subjects : Option (List ℕ)

-- places at which all rules stand that fit the call's filter, or have its name
abbrev pub AreKnown : Shapes → Policy → KnownPlaces → Call → Type 0
AreKnown shapes policy known (Add table rule) = ⊤
AreKnown shapes policy known (AddAll table rules) = ⊤
AreKnown shapes policy known (AddEx table rules) = ⊤
AreKnown shapes policy known (Remove table rule) = ⊤
AreKnown shapes policy known (RemoveAll table rules) = ⊤
AreKnown shapes policy known (Update table pairs) = ⊤
AreKnown shapes policy known (RemoveFiltered table at values) = IfSome known.rules (FindFitting at values (rows policy table))
AreKnown shapes policy known (UpdateFiltered table at values rules) = IfSome known.rules (FindFitting at values (rows policy table))
AreKnown shapes policy known (DeleteUser name) = IfSome known.rules (FindFitting 0 (name ∷ []) (rows policy (G 1))) × IfSome known.subjects (FindFitting shapes.subject_column (name ∷ []) (rows policy P))
AreKnown shapes policy known (DeleteRole name) = IfSome known.rules (FindFitting 1 (name ∷ []) (rows policy (G 1))) × IfSome known.subjects (FindFitting shapes.subject_column (name ∷ []) (rows policy P))
