-- Edits as text: a line for each rule that a change names, behind a sign, and a last line `.`; an LF after each.
use Rattle.std.specs.Prelude.{◌≡◌, ℕ, ◌+◌, ◌<◌, ◌≤◌, List, [], ◌∷◌, ◌++◌, codes, flat_map, length, min, IsSome, IsUtf8, ⊤}
use Rattle.std.specs.List.{AllByRecursion}
use Rattle.std.specs.Option.{option_map_or}
use Rattle.perm_base.specs.FieldLine as field
use Rattle.perm_base.specs.LineEnds.{AreFields}
use Rattle.perm_base.specs.TableNames.{name_of}
use Rattle.perm_base.specs.declared.shapes.TableId.{TableId}
use Rattle.policy_table.specs.Tables.{Fields}
use Rattle.policy_table.specs.declared.change.Change.{Change}
use Rattle.policy_table.specs.declared.change.Change.TheVariants.{Insert, Remove, Replace}
use Rattle.text_parts.specs.Lines.{lines_of, with_ends}
use Rattle.version_log.specs.declared.edit_fault.EditFault.{EditFault}
use Rattle.version_log.specs.declared.edit_fault.EditFault.TheVariants.{Malformed, NoMemory}
use Rattle.version_log.specs.declared.item.EditItem.{EditItem}
use Rattle.version_log.specs.declared.item.EditItem.TheVariants.{Signed, End}
use Rattle.version_log.specs.declared.item.Sign.{Sign}
use Rattle.version_log.specs.declared.item.Sign.TheVariants.{Inserted, Removed, Old, New}

-- the byte of a sign: `+`, `-`, `<` or `>`
abbrev pub sign_byte : Sign → ℕ
sign_byte Inserted = 43
sign_byte Removed = 45
sign_byte Old = 60
sign_byte New = 62

-- what the lines of a change say
abbrev pub change_items : Change → List EditItem
change_items (Insert table rule) = Signed Inserted table rule ∷ []
change_items (Remove table rule) = Signed Removed table rule ∷ []
change_items (Replace table old new) = Signed Old table old ∷ Signed New table new ∷ []

-- what the lines of an edit say
abbrev pub items_of : List Change → List EditItem
items_of changes = flat_map change_items changes ++ End ∷ []

-- a line is its sign, a blank, and the table's name and the rule's fields, as fields are printed; a table without a name has
-- no line
abbrev pub item_lines : EditItem → List (List ℕ)
item_lines (Signed sign table rule) = option_map_or (λ (name : List ℕ). (sign_byte sign ∷ 32 ∷ field.printed (name ∷ rule)) ∷ []) (name_of table) []
item_lines End = codes "." ∷ []

-- the lines of an edit
abbrev pub edit_lines : List Change → List (List ℕ)
edit_lines changes = flat_map item_lines (items_of changes)

-- the text of an edit
unfoldable pub printed_edit : List Change → List ℕ
printed_edit changes = with_ends (edit_lines changes)

-- a rule of 1 to 32 fields, of a table that has a name
pub record IsNamedRule (table : TableId) (rule : Fields) : Type 0 where
  pub named : IsSome (name_of table)
  pub some : 0 < length rule
  pub few : length rule ≤ 32

-- a line names such a rule
abbrev pub NamesRule : EditItem → Type 0
NamesRule (Signed sign table rule) = IsNamedRule table rule
NamesRule End = ⊤

-- all rules of the changes are such
abbrev pub NameRules : List Change → Type 0
NameRules changes = AllByRecursion NamesRule (items_of changes)

-- no field of the rule that a line names holds a line end
abbrev pub IsWhole : EditItem → Type 0
IsWhole (Signed sign table rule) = AreFields rule
IsWhole End = ⊤

-- what a line may say: such a rule, without line ends
pub record IsWritten (item : EditItem) : Type 0 where
  pub names : NamesRule item
  pub whole : IsWhole item

-- so may the lines of all changes
abbrev pub AreWritable : List Change → Type 0
AreWritable changes = AllByRecursion IsWritten (items_of changes)

-- the bytes are the text of an edit of such rules, in UTF-8
pub record IsEditText (bytes : List ℕ) (changes : List Change) : Type 0 where
  pub writable : AreWritable changes
  pub utf8 : IsUtf8 bytes
  pub text : bytes ≡ printed_edit changes

-- the lines stand at the front of such a text
pub record AreFront (lines : List (List ℕ)) : Type 0 where
  pub changes : List Change
  pub rest : List (List ℕ)
  pub writable : AreWritable changes
  pub utf8 : AllByRecursion IsUtf8 lines
  pub parts : edit_lines changes ≡ lines ++ rest

-- the number, from 1, of the line behind so many, as it is given
abbrev pub number_at : ℕ → ℕ
number_at count = min (count + 1) 4294967295

-- the line of this number does not belong: with the lines before it, it is no front, and they are
pub record IsStray (bytes : List ℕ) (number : ℕ) : Type 0 where
  pub before : List (List ℕ)
  pub here : List ℕ
  pub behind : List (List ℕ)
  pub parts : lines_of bytes ≡ before ++ here ∷ behind
  pub front : AreFront before
  pub stray : ¬ (AreFront (before ++ here ∷ []))
  pub place : number ≡ number_at (length before)

-- the text ends too early: all its lines are a front, but it is no edit's text; this is the number of the line after the last
pub record IsCut (bytes : List ℕ) (number : ℕ) : Type 0 where
  pub front : AreFront (lines_of bytes)
  pub no_edit : (changes : List Change) → ¬ (IsEditText bytes changes)
  pub place : number ≡ number_at (length (lines_of bytes))

-- why the bytes are no edit's text
pub data IsMalformed (bytes : List ℕ) (number : ℕ) : Type 0 where
  stray : IsStray bytes number → IsMalformed bytes number
  cut : IsCut bytes number → IsMalformed bytes number

-- the text has this fault; no text is at fault by want of memory
abbrev pub IsEditFault : List ℕ → EditFault → Type 0
IsEditFault bytes (Malformed line) = IsMalformed bytes line
IsEditFault bytes NoMemory = ⊥
