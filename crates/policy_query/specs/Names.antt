-- Which names a relation's rules have beside a name: (user, role), or (user, role, domain) where the relation has domains
-- (Casbin, RBAC API: GetRolesForUser, GetUsersForRole, and both in a domain).
use Rattle.std.specs.Prelude.{ℕ, Bool, true, ◌==◌, ◌&&◌, List, [], map, filter, Option, Some, None, Result, if◌then◌else◌, get_or, is_some}
use Rattle.std.specs.Option.{option_map_or}
use Rattle.std.specs.Str.{bytes_eq}
use Rattle.perm_base.specs.RoleShapes.{shape_of}
use Rattle.perm_base.specs.declared.shapes.RoleShape.{RoleShape}
use Rattle.perm_base.specs.declared.shapes.Shapes.{Shapes}
use Rattle.perm_base.specs.declared.shapes.TableId.TheVariants.{G}
use Rattle.policy_table.specs.Limits.{different}
use Rattle.policy_table.specs.Tables.{Fields, Policy, rows}
use Rattle.policy_query.specs.Answers.{answer_unless}
use Rattle.policy_query.specs.declared.refused.QueryRefused.{QueryRefused}
use Rattle.policy_query.specs.declared.refused.QueryRefused.TheVariants.{NoTable, Columns}

-- how many columns are named beside what is asked for: a name alone, or a name and a domain
abbrev pub named_columns : Bool → ℕ
named_columns with_domain = if with_domain then 2 else 1

-- there is no such relation, or a domain is named where it has none, or none where it has one
abbrev pub names_refusal : Shapes → ℕ → Option (List ℕ) → Option QueryRefused
names_refusal shapes relation domain = option_map_or
    (λ (shape : RoleShape). if named_columns shape.with_domain == named_columns (is_some domain) then None
    else Some (Columns (named_columns shape.with_domain) (named_columns (is_some domain))))
    (shape_of shapes.roles relation) (Some (NoTable (G relation)))

-- the rule is of the domain, where one is named; no text counts as a pattern
abbrev pub is_of : Option (List ℕ) → Fields → Bool
is_of None rule = true
is_of (Some domain) rule = bytes_eq domain (get_or rule 2 [])

-- the rule has the name in a column, and is of the domain
abbrev pub is_asked : ℕ → List ℕ → Option (List ℕ) → Fields → Bool
is_asked column name domain rule = bytes_eq name (get_or rule column []) && is_of domain rule

-- the names in the column `told` of the rules that have the name in the column `asked`: each once, in the order of its first rule
abbrev pub names_beside : ℕ → ℕ → List ℕ → Option (List ℕ) → List Fields → List (List ℕ)
names_beside asked told name domain rules = different (map (λ (rule : Fields). get_or rule told []) (filter (is_asked asked name domain) rules))

-- the roles of a user: users stand in the first column, roles in the second
abbrev pub roles_answer : Shapes → Policy → ℕ → List ℕ → Option (List ℕ) → Result (List (List ℕ)) QueryRefused
roles_answer shapes policy relation user domain = answer_unless (names_refusal shapes relation domain) (names_beside 0 1 user domain (rows policy (G relation)))

-- the users of a role
abbrev pub users_answer : Shapes → Policy → ℕ → List ℕ → Option (List ℕ) → Result (List (List ℕ)) QueryRefused
users_answer shapes policy relation role domain = answer_unless (names_refusal shapes relation domain) (names_beside 1 0 role domain (rows policy (G relation)))
