-- What lines say, one by one, and where a reader of them stands.
use Rattle.std.specs.Prelude.{◌≡◌, ℕ, ◌<◌, ◌≤◌, false, List, [], ◌∷◌, ◌++◌, flat_map, length, Option, Some, None, IsUtf8, if◌then◌else◌}
use Rattle.std.specs.List.{AllByRecursion, AllZip}
use Rattle.perm_base.specs.FieldLine as field
use Rattle.perm_base.specs.LineEnds.{AreFields}
use Rattle.perm_base.specs.TableNames.{name_of, table_named}
use Rattle.perm_base.specs.declared.shapes.TableId.{TableId}
use Rattle.policy_table.specs.Changes.{is_table}
use Rattle.policy_table.specs.Tables.{Fields}
use Rattle.policy_table.specs.declared.change.Change.{Change}
use Rattle.policy_table.specs.declared.change.Change.TheVariants.{Insert, Remove, Replace}
use Rattle.text_parts.specs.Lines.{has_byte}
use Rattle.version_log.specs.EditText.{IsWritten, change_items, item_lines}
use Rattle.version_log.specs.declared.edit_read.Place.{Place}
use Rattle.version_log.specs.declared.edit_read.Place.TheVariants.{Between, Half, Ended}
use Rattle.version_log.specs.declared.item.EditItem.{EditItem}
use Rattle.version_log.specs.declared.item.EditItem.TheVariants.{Signed, End}
use Rattle.version_log.specs.declared.item.Sign.TheVariants.{Inserted, Removed, Old, New}

-- the fields are the name of a table and a rule of 1 to 32 fields
pub record IsNamed (fields : Fields) (table : TableId) (rule : Fields) : Type 0 where
  pub name : List ℕ
  pub parts : fields ≡ name ∷ rule
  pub named : table_named name ≡ Some table
  pub some : 0 < length rule
  pub few : length rule ≤ 32

-- the text is a table's name and such a rule, as they are printed
pub record IsSpelled (text : List ℕ) (table : TableId) (rule : Fields) : Type 0 where
  pub name : List ℕ
  pub named : name_of table ≡ Some name
  pub spelling : text ≡ field.printed (name ∷ rule)
  pub some : 0 < length rule
  pub few : length rule ≤ 32
  pub fields : AreFields rule

-- the fields that the text prints
pub record IsPrinted (text : List ℕ) (fields : Fields) : Type 0 where
  pub spelling : text ≡ field.printed fields
  pub some : 0 < length fields
  pub few : length fields ≤ 34
  pub whole : AreFields fields

-- the line says this
pub record Says (line : List ℕ) (item : EditItem) : Type 0 where
  pub spelling : line ∷ [] ≡ item_lines item
  pub written : IsWritten item

-- what a line of UTF-8 is read as: what it says, or nothing where it says nothing
abbrev pub IsReadAs : List ℕ → Option EditItem → Type 0
IsReadAs line None = IsUtf8 line → (item : EditItem) → ¬ (Says line item)
IsReadAs line (Some item) = Says line item × IsUtf8 line

-- the place behind a line, and the change that it completes; none where it may not stand there
abbrev pub step : Place → EditItem → Option (Place × Option Change)
step Between End = Some (Ended, None)
step Between (Signed Inserted table rule) = Some (Between, Some (Insert table rule))
step Between (Signed Removed table rule) = Some (Between, Some (Remove table rule))
step Between (Signed Old table rule) = Some (Half table rule, None)
step Between (Signed New table rule) = None
step (Half table old) End = None
step (Half table old) (Signed Inserted there rule) = None
step (Half table old) (Signed Removed there rule) = None
step (Half table old) (Signed Old there rule) = None
step (Half table old) (Signed New there new) = if is_table table there then Some (Between, Some (Replace table old new)) else None
step Ended item = None

-- what was read since the last change that is complete
abbrev pub items_at : Place → List EditItem
items_at Between = []
items_at (Half table old) = Signed Old table old ∷ []
items_at Ended = End ∷ []

-- what was read
abbrev pub items_by : List Change → Place → List EditItem
items_by changes place = flat_map change_items changes ++ items_at place

-- these lines were read, each whole, up to this place behind these changes
pub record HasRead (front : List (List ℕ)) (changes : List Change) (place : Place) : Type 0 where
  pub says : AllZip Says front (items_by changes place)
  pub utf8 : AllByRecursion IsUtf8 front
  pub whole : AllByRecursion (λ (line : List ℕ). has_byte 10 line ≡ false) front
