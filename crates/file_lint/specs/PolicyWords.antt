-- The errors of a policy's lines: where each fault stands, and the words that tell it.
use Rattle.std.specs.Prelude.{ℕ, ◌-◌, ◌==◌, List, [], ◌++◌, codes, decimal, flat_map, length, Option, Some, None, if◌then◌else◌}
use Rattle.std.specs.List.{before_first}
use Rattle.std.specs.Option.{option_map_or}
use Rattle.perm_base.specs.Fields.{joined}
use Rattle.perm_base.specs.RoleShapes.{shape_of}
use Rattle.perm_base.specs.TableNames.{table_named}
use Rattle.perm_base.specs.declared.shapes.RoleShape.{RoleShape}
use Rattle.perm_base.specs.declared.shapes.TableId.{TableId}
use Rattle.perm_base.specs.declared.shapes.TableId.TheVariants.{P, G}
use Rattle.model_conf.specs.ModelText.{ModelParts}
use Rattle.policy_csv.specs.declared.fault.PolicyFault.{PolicyFault}
use Rattle.policy_csv.specs.declared.fault.PolicyFault.TheVariants as fault
use Rattle.policy_table.specs.declared.limit.Limit.{Limit}
use Rattle.policy_table.specs.declared.limit.Limit.TheVariants.{PolicyRows, RoleRows, PatternRows, Domains, Edits}
use Rattle.text_parts.specs.Blanks.{behind_blanks, trimmed}
use Rattle.text_parts.specs.Numbered.{Line}
use Rattle.file_lint.specs.Columns.{field_column, field_count}
use Rattle.file_lint.specs.Findings.{finding}
use Rattle.file_lint.specs.Hints.{begins_so}
use Rattle.file_lint.specs.Mended.{relation_key}
use Rattle.file_lint.specs.ModelNames.{order_mark}
use Rattle.file_lint.specs.ModelWords.{comment_words, mark_words}
use Rattle.file_lint.specs.Texts.{quoted}
use Rattle.file_lint.specs.declared.columns.Within.TheVariants.{Front}
use Rattle.file_lint.specs.declared.finding.Finding.{Finding}
use Rattle.file_lint.specs.declared.finding.Level.TheVariants.{Error}

-- what stands in front of the first comma
abbrev pub name_in : List ℕ → List ℕ
name_in line = trimmed (before_first (λ (byte : ℕ). byte == 44) line)

-- `p`, and the relations of the model
abbrev pub tables_text : ModelParts → List ℕ
tables_text model = codes "p" ++ flat_map (λ (shape : RoleShape). codes ", " ++ relation_key shape.number) model.relations

-- a first field that names no table
abbrev pub table_words : ModelParts → List ℕ → List ℕ
table_words model line =
    if begins_so order_mark line then mark_words
    else if begins_so (codes ";") (behind_blanks line) then comment_words
    else if begins_so (codes "//") (behind_blanks line) then comment_words
    else codes "unknown table " ++ quoted (name_in line) ++ codes ": the model has " ++ tables_text model

-- the columns of a relation's rules
abbrev pub role_names : RoleShape → List ℕ
role_names shape = if shape.with_domain then codes "3 wanted (name, role, domain)" else codes "2 wanted (name, role)"

-- the columns of the table that is named
abbrev pub wanted_text : ModelParts → Option TableId → List ℕ
wanted_text model None = codes "as many wanted as its table has columns"
wanted_text model (Some P) = decimal (length model.policy) ++ codes " wanted (" ++ joined model.policy ++ codes ")"
wanted_text model (Some (G number)) = option_map_or role_names (shape_of model.relations number) []

-- another number of fields
abbrev pub count_words : ModelParts → List ℕ → List ℕ
count_words model line = decimal (field_count Front line - 1) ++ codes " fields, " ++ wanted_text model (table_named (name_in line))

-- the limit that is passed
abbrev pub limit_words : Limit → List ℕ
limit_words PolicyRows = codes "full: a policy has 200000 rules of p at most"
limit_words RoleRows = codes "full: a policy has 200000 rules of all role relations at most"
limit_words PatternRows = codes "full: a policy has 64 rules of role relations at most whose domain is a pattern"
limit_words Domains = codes "full: a policy has 16384 different pairs of a role relation and a domain at most"
limit_words Edits = codes "full: too many edits"

-- the words of a fault of a line
abbrev pub policy_words : ModelParts → PolicyFault → List ℕ → List ℕ
policy_words model fault.NotUtf8 line = codes "not UTF-8"
policy_words model (fault.Quote number column) line = codes "a quote, or a CR, is out of place: a field in quotes ends in front of a comma, and each quote in it stands twice"
policy_words model (fault.UnknownTable number) line = table_words model line
policy_words model (fault.Columns number) line = count_words model line
policy_words model (fault.FieldTooLong number) line = codes "a field has more than 4096 bytes"
policy_words model (fault.Full number what) line = limit_words what
policy_words model fault.NoMemory line = []

-- a quote has its own column; all else is told at the first field
abbrev pub fault_column : PolicyFault → List ℕ → ℕ
fault_column (fault.Quote number column) line = column
fault_column _ line = field_column 0 line

-- the finding of a fault of a line
unfoldable pub policy_error : ModelParts → PolicyFault → Line → Finding
policy_error model why line = finding line.number (fault_column why line.text) Error (policy_words model why line.text)
