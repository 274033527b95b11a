-- The text of a policy: a line for each rule, the name of its table and its fields (Casbin, policy).
use Rattle.std.specs.Prelude.{◌≡◌, ℕ, List, [], ◌∷◌, length, Some, None, IsTrue, IsUtf8, if◌then◌else◌}
use Rattle.std.specs.List.{AllZip}
use Rattle.perm_base.specs.FieldLine.{IsFields}
use Rattle.perm_base.specs.TableNames.{table_named}
use Rattle.perm_base.specs.declared.shapes.Shapes.{Shapes}
use Rattle.policy_csv.specs.Lines.{policy_lines}
use Rattle.policy_csv.specs.declared.entry.Entry.{Entry}
use Rattle.policy_table.specs.Changes.{changed}
use Rattle.policy_table.specs.Limits.{columns_of, has_short_fields, passed}
use Rattle.policy_table.specs.Tables.{Policy, rows, stands, without_rules}
use Rattle.policy_table.specs.declared.change.Change.TheVariants.{Insert}
use Rattle.text_parts.specs.Numbered.{Line}

-- the text of a line is the name of a table of the shapes and the fields of a rule, as many as its columns and none too long
pub record SaysRule (shapes : Shapes) (text : List ℕ) (entry : Entry) : Type 0 where
  pub name : List ℕ
  pub fields : IsFields text (name ∷ entry.rule)
  pub named : table_named name ≡ Some entry.table
  pub columns : columns_of shapes entry.table ≡ Some (length entry.rule)
  pub short : IsTrue (has_short_fields entry.rule)

-- the lines say these rules, one each
abbrev pub SayRules : Shapes → List Line → List Entry → Type 0
SayRules shapes lines entries = AllZip (λ (line : Line) (entry : Entry). SaysRule shapes line.text entry) lines entries

-- the tables with a rule, which is put in unless it stands
abbrev pub with_entry : Entry → Policy → Policy
with_entry entry policy = if stands entry.rule (rows policy entry.table) then policy else changed (Insert entry.table entry.rule) policy

-- the tables with rules, in their order
unfoldable pub with_entries : List Entry → Policy → Policy
with_entries [] policy = policy
with_entries (entry ∷ entries) policy = with_entries entries (with_entry entry policy)

-- the tables that rules fill
abbrev pub filled : Shapes → List Entry → Policy
filled shapes entries = with_entries entries (without_rules shapes.ranked)

-- the bytes are UTF-8, each line that counts says a rule, the rules fill the tables, and the tables pass no limit
pub record IsPolicy (shapes : Shapes) (bytes : List ℕ) (policy : Policy) : Type 0 where
  pub utf8 : IsUtf8 bytes
  pub entries : List Entry
  pub lines : SayRules shapes (policy_lines bytes) entries
  pub tables : policy ≡ filled shapes entries
  pub within : passed shapes policy ≡ None
