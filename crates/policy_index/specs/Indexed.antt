-- What contracts see of an index, of which rows it is one, and for which changes of tables it has room. An index knows rows by
-- their slots; it keeps no text of theirs.
use Rattle.std.specs.Prelude.{◌≡◌, ℕ, ◌+◌, ◌<◌, ◌≤◌, ◌^◌, Bool, true, false, not, ◌&&◌, ◌||◌, ◌==◌, List, length, if◌then◌else◌}
use Rattle.std.specs.List.{count_by, list_all}
use Rattle.perm_base.specs.declared.shapes.TableId.TheVariants.{P}
use Rattle.policy_table.specs.Changes.{is_table, table_of}
use Rattle.policy_table.specs.Held.{Held}
use Rattle.policy_table.specs.Slots.{slots, slots_after}
use Rattle.policy_table.specs.Tables.{Fields}
use Rattle.policy_table.specs.declared.change.Change.{Change}
use Rattle.policy_table.specs.declared.change.Change.TheVariants.{Insert, Remove, Replace}
use Rattle.policy_index.specs.Hashes.{mark_of, marks_of}
use Rattle.policy_index.specs.Keys.{HaveColumns, KeyParts, is_below}
use Rattle.policy_index.specs.Lists.{Lists, room_at}
use Rattle.policy_index.specs.declared.mark.Mark.{Mark}

-- the key, what is kept of the row in each slot, for how many more slots there is room, and the slots by their hashes
pub record Indexed : Type 0 where
  pub key : KeyParts
  pub marks : List Mark
  pub spare : ℕ
  pub lists : Lists

-- the index is of these rows by their slots: they are few, have the columns of the key, and what is kept of each is its own
pub record IsIndexOf (index : Indexed) (by_slot : List Fields) : Type 0 where
  pub few : length by_slot < 2 ^ 32
  pub columns : HaveColumns index.key by_slot
  pub marks : index.marks ≡ marks_of index.key by_slot

-- the index is of the rows of p of tables
abbrev pub IsIndexIn : Indexed → Held → Type 0
IsIndexIn index held = IsIndexOf index (slots held P)

-- a rule that the change puts into p has the columns of the key
abbrev pub fits_key : KeyParts → Change → Bool
fits_key key (Insert table rule) = not (is_table P table) || is_below (length rule) key
fits_key key (Remove table rule) = true
fits_key key (Replace table old new) = not (is_table P table) || is_below (length new) key

-- each rule that the changes put into p has them
abbrev pub all_fit : KeyParts → List Change → Bool
all_fit key changes = list_all (fits_key key) changes

-- the change puts a rule into p that is found under the hash
abbrev pub puts_hash : KeyParts → ℕ → Change → Bool
puts_hash key hash (Insert table rule) = is_table P table && ((mark_of key rule).hash == hash)
puts_hash key hash (Remove table rule) = false
puts_hash key hash (Replace table old new) = is_table P table && ((mark_of key new).hash == hash)

-- how many rules under it the changes put into p
abbrev pub puts : KeyParts → ℕ → List Change → ℕ
puts key hash changes = count_by (puts_hash key hash) changes

-- the change takes a further slot of p
abbrev pub takes_slot : Change → Bool
takes_slot (Insert table rule) = is_table P table
takes_slot (Remove table rule) = false
takes_slot (Replace table old new) = false

-- how many further slots the changes take
abbrev pub slots_taken : List Change → ℕ
slots_taken changes = count_by takes_slot changes

-- the changes can be made in the index: the rules that they put into p have the columns, there are never too many, and there
-- is room for them
pub record IsReadyFor (index : Indexed) (changes : List Change) : Type 0 where
  pub columns : all_fit index.key changes ≡ true
  pub few : length index.marks + slots_taken changes < 2 ^ 32
  pub spare : slots_taken changes ≤ index.spare
  pub room : (hash : ℕ) → puts index.key hash changes ≤ room_at index.lists hash

-- the rows of p by their slots after a change of tables
abbrev pub slots_behind : Change → List Fields → List Fields
slots_behind change by_slot = if is_table P (table_of change) then slots_after change by_slot else by_slot
