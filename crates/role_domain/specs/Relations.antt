-- A role relation by its domains: which of its rows count in one (Casbin, RBAC with domains).
use Rattle.std.specs.Prelude.{◌↔◌, ◌≤◌, ℕ, Bool, ◌&&◌, ◌||◌, IsTrue, List, [], ◌∷◌, length, filter, Option, None, Some, ⊤, if◌then◌else◌}
use Rattle.std.specs.List.{Contains, count_by}
use Rattle.std.specs.Str.{bytes_eq}
use Rattle.perm_base.specs.Patterns.{is_pattern}
use Rattle.perm_base.specs.declared.shapes.Fit.{Fit}
use Rattle.perm_base.specs.declared.shapes.Fit.TheVariants.{Exact}
use Rattle.perm_base.specs.declared.shapes.RoleShape.{RoleShape}
use Rattle.policy_table.specs.Limits.{domains_of}
use Rattle.policy_table.specs.Tables.{Fields, same}
use Rattle.role_domain.specs.declared.terms.Terms.{Terms}
use Rattle.role_meaning.specs.Fits.{Fits}
use Rattle.role_meaning.specs.Links.{CountsIn, domain_of, role_of, user_of}

-- how domains are compared: where rows have none, each has the empty text, which is compared byte by byte
abbrev pub fit_of : RoleShape → Fit
fit_of shape = if shape.with_domain then shape.domains else Exact

abbrev pub terms_of : RoleShape → ℕ → Terms
terms_of shape limit = record { names = shape.names; domains = fit_of shape; limit = limit }

-- how names and domains are compared, the hierarchy limit, and the rows
pub record Relation : Type 0 where
  pub terms : Terms
  pub rows : List Fields

-- the user and the role of a row
abbrev pub pair_of : Fields → Fields
pair_of row = user_of row ∷ role_of row ∷ []

-- the test tells which texts the domain fits
pub record Tells (fit : Fit) (domain : List ℕ) (test : List ℕ → Bool) : Type 0 where
  pub told : (text : List ℕ) → IsTrue (test text) ↔ Fits fit domain text

-- how many rows there are with this user and role whose domain passes the test
abbrev pub counted : (List ℕ → Bool) → Fields → List Fields → ℕ
counted test one rows = count_by (λ (row : Fields). test (domain_of row) && same one (pair_of row)) rows

-- how many rows have this text as their domain
abbrev pub named : List ℕ → List Fields → ℕ
named domain rows = count_by (λ (row : Fields). bytes_eq domain (domain_of row)) rows

-- the row's domain is a pattern
abbrev pub has_pattern : Fit → Fields → Bool
has_pattern fit row = is_pattern fit (domain_of row)

-- at most 64 rows have a pattern as their domain, where they have one
abbrev pub HasFewPatterns : RoleShape → List Fields → Type 0
HasFewPatterns shape rows = IsTrue shape.with_domain → length (filter (is_pattern shape.domains) (domains_of rows)) ≤ 64

-- no domain is asked for, or some row has this text as its domain
abbrev pub IsNamed : List Fields → Option (List ℕ) → Type 0
IsNamed rows None = ⊤
IsNamed rows (Some domain) = Contains (domains_of rows) domain

-- at most 1,024 names hold the role of each row that counts in the domain
pub record HasFewRoles (shape : RoleShape) (rows : List Fields) (domain : Option (List ℕ)) : Type 0 where
  pub names : List (List ℕ)
  pub few : length names ≤ 1024
  pub all : (row : Fields) → Contains rows row → CountsIn shape domain row → Contains names (role_of row)

-- the test tells which of the rows count in the domain
pub record TellsRows (shape : RoleShape) (rows : List Fields) (domain : Option (List ℕ)) (test : Fields → Bool) : Type 0 where
  pub told : (row : Fields) → Contains rows row → IsTrue (test row) ↔ CountsIn shape domain row

-- how many of the rows that pass the test have the name as their user, or a pattern
abbrev pub asked_rows : RoleShape → (Fields → Bool) → List ℕ → List Fields → ℕ
asked_rows shape test x rows = count_by (λ (row : Fields). test row && (bytes_eq x (user_of row) || is_pattern shape.names (user_of row))) rows
