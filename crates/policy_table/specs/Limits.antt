-- The limits of a policy's tables (this project's profile), and tables that have given shapes.
use Rattle.std.specs.Prelude.{◌≡◌, ℕ, not, nat_lt, Bool, IsTrue, List, [], ◌∷◌, length, map, filter, All, Option, Some, None, if◌then◌else◌, get_or}
use Rattle.std.specs.List.{list_all, sum_by}
use Rattle.std.specs.Option.{option_map_or}
use Rattle.std.specs.Str.{bytes_eq}
use Rattle.perm_base.specs.Patterns.{is_pattern}
use Rattle.perm_base.specs.RoleShapes.{shape_of}
use Rattle.perm_base.specs.declared.shapes.RoleShape.{RoleShape}
use Rattle.perm_base.specs.declared.shapes.Shapes.{Shapes}
use Rattle.perm_base.specs.declared.shapes.TableId.{TableId}
use Rattle.perm_base.specs.declared.shapes.TableId.TheVariants.{P, G}
use Rattle.policy_table.specs.Tables.{Fields, Policy, rows}
use Rattle.policy_table.specs.declared.limit.Limit.{Limit}
use Rattle.policy_table.specs.declared.limit.Limit.TheVariants.{PolicyRows, RoleRows, PatternRows, Domains}

-- the columns of a relation's rules
abbrev pub role_columns : RoleShape → ℕ
role_columns shape = if shape.with_domain then 3 else 2

-- the columns of a table, where the shapes have it
abbrev pub columns_of : Shapes → TableId → Option ℕ
columns_of shapes P = Some shapes.columns
columns_of shapes (G number) = option_map_or (λ (shape : RoleShape). Some (role_columns shape)) (shape_of shapes.roles number) None

-- each rule stands in a table of the shapes, and has its number of columns; p is ranked where the shapes say so
pub record HaveShapes (shapes : Shapes) (policy : Policy) : Type 0 where
  pub columns : (table : TableId) → All (λ (rule : Fields). columns_of shapes table ≡ Some (length rule)) (rows policy table)
  pub ranked : policy.ranked ≡ shapes.ranked

-- the domains of a relation's rules: their third fields
abbrev pub domains_of : List Fields → List (List ℕ)
domains_of rules = map (λ (rule : Fields). get_or rule 2 []) rules

-- each text of a list once
unfoldable pub different : List (List ℕ) → List (List ℕ)
different [] = []
different (text ∷ texts) = text ∷ filter (λ (other : List ℕ). not (bytes_eq text other)) (different texts)

-- how many rules the relations have together
abbrev pub role_rows : Shapes → Policy → ℕ
role_rows shapes policy = sum_by (λ (shape : RoleShape). length (rows policy (G shape.number))) shapes.roles

-- the relations whose rules have a domain
abbrev pub with_domains : Shapes → List RoleShape
with_domains shapes = filter (λ (shape : RoleShape). shape.with_domain) shapes.roles

-- how many of their rules have a domain that is a pattern
abbrev pub pattern_rows : Shapes → Policy → ℕ
pattern_rows shapes policy = sum_by (λ (shape : RoleShape). length (filter (is_pattern shape.domains) (domains_of (rows policy (G shape.number))))) (with_domains shapes)

-- how many different pairs of a relation and a domain there are
abbrev pub domain_pairs : Shapes → Policy → ℕ
domain_pairs shapes policy = sum_by (λ (shape : RoleShape). length (different (domains_of (rows policy (G shape.number))))) (with_domains shapes)

-- the first limit that the tables pass
abbrev pub passed : Shapes → Policy → Option Limit
passed shapes policy =
    if nat_lt 200000 (length (rows policy P)) then Some PolicyRows
    else if nat_lt 200000 (role_rows shapes policy) then Some RoleRows
    else if nat_lt 64 (pattern_rows shapes policy) then Some PatternRows
    else if nat_lt 16384 (domain_pairs shapes policy) then Some Domains
    else None

-- the greatest number of bytes of a field
abbrev pub most_field_bytes : ℕ
most_field_bytes = 4096

-- no field of the rule has more bytes
abbrev pub has_short_fields : Fields → Bool
has_short_fields rule = list_all (λ (field : List ℕ). not (nat_lt most_field_bytes (length field))) rule

-- tables of the shapes within the limits
pub record AreSound (shapes : Shapes) (policy : Policy) : Type 0 where
  pub shaped : HaveShapes shapes policy
  pub short : (table : TableId) → All (λ (rule : Fields). IsTrue (has_short_fields rule)) (rows policy table)
  pub within : passed shapes policy ≡ None
