-- What contracts see of tables beside their rules: the room, which is how many further rules a table takes without memory, and
-- the rules by their slots.
use Rattle.std.specs.Prelude.{◌≡◌, ℕ, ◌==◌, ◌<◌, ◌≤◌, Bool, true, false, List, length, filter, get_or}
use Rattle.std.specs.Option.{option_map_or}
use Rattle.perm_base.specs.declared.shapes.TableId.{TableId}
use Rattle.policy_table.specs.Changes.{applies, edited}
use Rattle.policy_table.specs.Tables.{AreLists, Lists, Policy, most_tables, place}
use Rattle.policy_table.specs.declared.change.Change.{Change}
use Rattle.policy_table.specs.declared.change.Change.TheVariants.{Insert, Remove, Replace}

-- the tables, the room of each, and the rules of each by their slots
pub record Held : Type 0 where
  pub policy : Policy
  pub spare : List ℕ
  pub slots : Lists

-- the table stands at this place
abbrev pub is_at : ℕ → TableId → Bool
is_at at table = option_map_or (λ (there : ℕ). there == at) (place table) false

-- the change puts a rule into the table at this place
abbrev pub puts_at : ℕ → Change → Bool
puts_at at (Insert table rule) = is_at at table
puts_at at (Remove table rule) = false
puts_at at (Replace table old new) = is_at at table

-- the room that changes need in the table at a place
abbrev pub needed : ℕ → List Change → ℕ
needed at changes = length (filter (puts_at at) changes)

-- each table has the room that the changes need
abbrev pub HasRoom : List ℕ → List Change → Type 0
HasRoom spare changes = (at : ℕ) → at < most_tables → needed at changes ≤ get_or spare at 0

-- the changes can be made in these tables: they apply, no table gets too long, and there is room
pub record IsPreparedFor (held : Held) (changes : List Change) : Type 0 where
  pub possible : applies changes held.policy ≡ true
  pub few : AreLists (edited changes held.policy).lists
  pub room : HasRoom held.spare changes
