-- Slots of rules: where a table keeps each of its rules, counted from 0. A rule stays in its slot whatever happens to other
-- rules, but for one case: where a rule is taken out, that of the last slot comes into its slot. The order of the rows is
-- another.
use Rattle.std.specs.Prelude.{◌≡◌, ℕ, List, [], ◌∷◌, ◌++◌, length, get_or, slice_set}
use Rattle.std.specs.List.{IsDistinct}
use Rattle.std.specs.Option.{option_map_or}
use Rattle.indexmap.specs.IndexMap.{swap_remove_by}
use Rattle.perm_base.specs.declared.shapes.TableId.{TableId}
use Rattle.policy_table.specs.Changes.{in_place, table_of}
use Rattle.policy_table.specs.Held.{Held}
use Rattle.policy_table.specs.Tables.{Fields, Lists, place, same, stands}
use Rattle.policy_table.specs.declared.change.Change.{Change}
use Rattle.policy_table.specs.declared.change.Change.TheVariants.{Insert, Remove, Replace}

-- the rules of a table by their slots
abbrev pub slots : Held → TableId → List Fields
slots held table = option_map_or (λ (at : ℕ). get_or held.slots at []) (place table) []

-- those of its table after a change: a rule that is inserted takes the next slot, and a new one takes the slot of the old one
-- for which it comes, whatever their ranks
abbrev pub slots_after : Change → List Fields → List Fields
slots_after (Insert table rule) by_slot = by_slot ++ rule ∷ []
slots_after (Remove table rule) by_slot = swap_remove_by (same rule) by_slot
slots_after (Replace table old new) by_slot = in_place old new by_slot

-- those of all tables after a change
abbrev pub slots_changed : Change → Lists → Lists
slots_changed change lists = option_map_or (λ (at : ℕ). slice_set lists at (slots_after change (get_or lists at []))) (place (table_of change)) lists

-- and after an edit
unfoldable pub slots_edited : List Change → Lists → Lists
slots_edited [] lists = lists
slots_edited (change ∷ changes) lists = slots_edited changes (slots_changed change lists)

-- the rules of a table stand in its slots, each in one
pub record AreSlots (by_slot rules : List Fields) : Type 0 where
  pub once : IsDistinct same by_slot
  pub count : length by_slot ≡ length rules
  pub all : (rule : Fields) → stands rule by_slot ≡ stands rule rules
