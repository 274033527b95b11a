-- The printed text of tables.
use Rattle.std.specs.Prelude.{ℕ, List, [], ◌∷◌, All, map, flat_map}
use Rattle.std.specs.Option.{option_map_or}
use Rattle.perm_base.specs.FieldLine as field
use Rattle.perm_base.specs.LineEnds.{AreFields}
use Rattle.perm_base.specs.TableNames.{name_of}
use Rattle.perm_base.specs.declared.shapes.TableId.{TableId}
use Rattle.perm_base.specs.declared.shapes.TableId.TheVariants.{P, G}
use Rattle.policy_table.specs.Tables.{Fields, Policy, rows}
use Rattle.text_parts.specs.Lines.{with_ends}

-- p, then g to g8
abbrev pub all_tables : List TableId
all_tables = P ∷ G 1 ∷ G 2 ∷ G 3 ∷ G 4 ∷ G 5 ∷ G 6 ∷ G 7 ∷ G 8 ∷ []

-- the line of each rule of a table: the table's name and the rule's fields, as fields are printed
abbrev pub table_lines : Policy → TableId → List (List ℕ)
table_lines policy table = option_map_or (λ (name : List ℕ). map (λ (rule : Fields). field.printed (name ∷ rule)) (rows policy table)) (name_of table) []

-- the lines of all tables, each ended by LF
unfoldable pub printed : Policy → List ℕ
printed policy = with_ends (flat_map (table_lines policy) all_tables)

-- no field of the table's rules holds a line end
abbrev pub HaveFields : Policy → TableId → Type 0
HaveFields policy table = All AreFields (rows policy table)
