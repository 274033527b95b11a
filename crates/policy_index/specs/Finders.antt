-- What contracts see of finders: for each the table whose rows it finds, and their index by the texts of some columns.
use Rattle.std.specs.Prelude.{◌≡◌, List, All, None}
use Rattle.perm_base.specs.declared.shapes.TableId.{TableId}
use Rattle.policy_table.specs.Held.{Held}
use Rattle.policy_table.specs.Slots.{slots}
use Rattle.policy_index.specs.Indexed.{Indexed, IsIndexOf}

-- the table, and the index
pub record Sought : Type 0 where
  pub table : TableId
  pub index : Indexed

-- the index is of the rows of the table in these tables, and no pattern counts in it
pub record IsFinderIn (held : Held) (finder : Sought) : Type 0 where
  pub plain : finder.index.key.pattern ≡ None
  pub index : IsIndexOf finder.index (slots held finder.table)

-- each of these finders is one in the tables
abbrev pub AreFindersIn : Held → List Sought → Type 0
AreFindersIn held finders = All (IsFinderIn held) finders
