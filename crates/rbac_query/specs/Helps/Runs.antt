-- Listed roles that are as far as each other.
use Rattle.std.specs.Prelude.{ℕ, ◌<◌, ◌≤◌, List, [], AllPairs, get_or}
use Rattle.perm_base.specs.declared.shapes.RoleShape.{RoleShape}
use Rattle.policy_table.specs.Tables.{Fields}
use Rattle.role_meaning.specs.Distances.{IsFar}
use Rattle.role_meaning.specs.Implied.{IsNearer}
use Rattle.rbac_query.specs.Report.{Subject, asked}

-- the nearer roles of a user are listed first
abbrev pub AreInOrder : RoleShape → List Fields → Subject → List (List ℕ) → Type 0
AreInOrder shape rows subject names = AllPairs (IsNearer shape rows (asked shape subject.domain) subject.user) names

-- a user reaches the listed roles from one place on, up to another, by so many links
abbrev pub AreAsFar : RoleShape → List Fields → Subject → List (List ℕ) → ℕ → ℕ → ℕ → Type 0
AreAsFar shape rows subject names from end links = (at : ℕ) → from ≤ at → at < end → IsFar shape rows (asked shape subject.domain) subject.user (get_or names at []) links
