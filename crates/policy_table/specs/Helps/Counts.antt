-- What is counted of one relation, and of one table's changes.
use Rattle.std.specs.Prelude.{ℕ, Bool, false, not, nat_lt, List, [], ◌∷◌, length, filter, Option, Some, None, if◌then◌else◌}
use Rattle.perm_base.specs.Patterns.{is_pattern}
use Rattle.perm_base.specs.declared.shapes.RoleShape.{RoleShape}
use Rattle.perm_base.specs.declared.shapes.Shapes.{Shapes}
use Rattle.perm_base.specs.declared.shapes.TableId.{TableId}
use Rattle.perm_base.specs.declared.shapes.TableId.TheVariants.{P, G}
use Rattle.policy_table.specs.Changes.{is_table, table_of}
use Rattle.policy_table.specs.Limits.{different, domain_pairs, domains_of, pattern_rows}
use Rattle.policy_table.specs.Tables.{Fields, Policy, rows}
use Rattle.policy_table.specs.declared.change.Change.{Change}
use Rattle.policy_table.specs.declared.change.Change.TheVariants.{Insert, Remove, Replace}
use Rattle.policy_table.specs.declared.limit.Limit.{Limit}
use Rattle.policy_table.specs.declared.limit.Limit.TheVariants.{PatternRows, Domains}

-- how many rules of a relation have a domain that is a pattern
abbrev pub patterns_of : Policy → RoleShape → ℕ
patterns_of policy shape = if shape.with_domain then length (filter (is_pattern shape.domains) (domains_of (rows policy (G shape.number)))) else 0

-- how many different domains the rules of a relation have
abbrev pub pairs_of : Policy → RoleShape → ℕ
pairs_of policy shape = if shape.with_domain then length (different (domains_of (rows policy (G shape.number)))) else 0

-- the change puts a rule into the table and takes none out
abbrev pub inserts : TableId → Change → Bool
inserts table (Insert there rule) = is_table table there
inserts table (Remove there rule) = false
inserts table (Replace there old new) = false

-- the change takes a rule out of the table and puts none in
abbrev pub removes : TableId → Change → Bool
removes table (Insert there rule) = false
removes table (Remove there rule) = is_table table there
removes table (Replace there old new) = false

-- the rules that a change takes out
abbrev pub taken_by : Change → List Fields
taken_by (Insert there rule) = []
taken_by (Remove there rule) = rule ∷ []
taken_by (Replace there old new) = old ∷ []

-- and those that it puts in
abbrev pub put_by : Change → List Fields
put_by (Insert there rule) = rule ∷ []
put_by (Remove there rule) = []
put_by (Replace there old new) = new ∷ []

-- those that it takes out of a table
abbrev pub out_of : TableId → Change → List Fields
out_of table change = if is_table table (table_of change) then taken_by change else []

-- and those that it puts into a table
abbrev pub put_into : TableId → Change → List Fields
put_into table change = if is_table table (table_of change) then put_by change else []

-- the change is of a relation
abbrev pub is_of_roles : Change → Bool
is_of_roles change = not (is_table P (table_of change))

-- the first of the limits on domains that the tables pass
abbrev pub domain_limit : Shapes → Policy → Option Limit
domain_limit shapes policy = if nat_lt 64 (pattern_rows shapes policy) then Some PatternRows else if nat_lt 16384 (domain_pairs shapes policy) then Some Domains else None
