-- Which changes tables of given shapes admit (this project's profile).
use Rattle.std.specs.Prelude.{◌≡◌, ℕ, Bool, true, false, ◌==◌, ◌&&◌, List, [], ◌∷◌, ⊤, length, is_none}
use Rattle.std.specs.List.{list_all}
use Rattle.std.specs.Option.{option_map_or}
use Rattle.perm_base.specs.declared.shapes.Shapes.{Shapes}
use Rattle.perm_base.specs.declared.shapes.TableId.{TableId}
use Rattle.policy_table.specs.Changes.{applies, edited}
use Rattle.policy_table.specs.Limits.{columns_of, has_short_fields, passed}
use Rattle.policy_table.specs.Tables.{Fields, Policy}
use Rattle.policy_table.specs.declared.change.Change.{Change}
use Rattle.policy_table.specs.declared.change.Change.TheVariants.{Insert, Remove, Replace}

-- the rule may stand in the table: the shapes have the table, and the rule has its number of columns and no long field
abbrev pub may_stand : Shapes → TableId → Fields → Bool
may_stand shapes table rule = option_map_or (λ (columns : ℕ). length rule == columns) (columns_of shapes table) false && has_short_fields rule

-- the rule that a change puts in, where it puts one in, may stand in its table
abbrev pub is_fitting : Shapes → Change → Bool
is_fitting shapes (Insert table rule) = may_stand shapes table rule
is_fitting shapes (Remove table rule) = true
is_fitting shapes (Replace table old new) = may_stand shapes table new

-- the changes are admitted: each rule that they put in may stand in its table, they apply one after the other, and the
-- tables after all of them pass no limit
abbrev pub admits : Shapes → Policy → List Change → Bool
admits shapes policy changes = list_all (is_fitting shapes) changes && applies changes policy && is_none (passed shapes (edited changes policy))

-- each edit is admitted in the tables after those before it
abbrev pub AreAdmitted : Shapes → Policy → List (List Change) → Type 0
AreAdmitted shapes policy [] = ⊤
AreAdmitted shapes policy (edit ∷ edits) = (admits shapes policy edit ≡ true) × AreAdmitted shapes (edited edit policy) edits
