-- Walks from a name over rows, level by level, in one domain.
use Rattle.std.specs.Prelude.{◌≡◌, ◌⊎◌, ◌<◌, ◌≤◌, true, false, ℕ, Bool, List, [], Option, None, Some, length, get_or}
use Rattle.perm_base.specs.declared.shapes.RoleShape.{RoleShape}
use Rattle.policy_table.specs.Tables.{Fields}
use Rattle.role_domain.specs.declared.terms.Terms.{Terms}
use Rattle.role_meaning.specs.Fits.{Fits}
use Rattle.role_meaning.specs.Least.{IsLeast}
use Rattle.role_meaning.specs.Links.{HasRoles, Reaches, domain_of, role_of, user_of}

-- the shape of a relation whose rows have a domain
abbrev pub inner : Terms → RoleShape
inner terms = record { number = 1; with_domain = true; names = terms.names; domains = terms.domains }

-- rows, and the domain in which they are walked
pub record Walk : Type 0 where
  pub terms : Terms
  pub rows : List Fields
  pub text : List ℕ

abbrev pub walk_of : Terms → List Fields → List ℕ → Walk
walk_of terms rows text = record { terms = terms; rows = rows; text = text }

-- the one name reaches the other by at most so many links
abbrev pub Walks : Walk → ℕ → List ℕ → List ℕ → Type 0
Walks walk links x y = Reaches (inner walk.terms) walk.rows (Some walk.text) links x y

-- the row at a place is marked
abbrev pub IsMarked : List Bool → ℕ → Type 0
IsMarked marks at = get_or marks at false ≡ true

-- the name fits the user of the row at a place, which counts in the domain
pub record Enters (walk : Walk) (name : List ℕ) (at : ℕ) : Type 0 where
  pub within : at < length walk.rows
  pub fits : Fits walk.terms.names name (user_of (get_or walk.rows at []))
  pub counts : Fits walk.terms.domains walk.text (domain_of (get_or walk.rows at []))

-- the name is the role of the row at a place
pub record IsRoleAt (walk : Walk) (name : List ℕ) (at : ℕ) : Type 0 where
  pub within : at < length walk.rows
  pub role : role_of (get_or walk.rows at []) ≡ name

-- places of which something holds were marked where they were not, and are marked as new then
pub record Extends (Allowed : ℕ → Type 0) (all new all_after new_after : List Bool) : Type 0 where
  pub keeps : (at : ℕ) → IsMarked all at → IsMarked all_after at
  pub keeps_new : (at : ℕ) → IsMarked new at → IsMarked new_after at
  pub only : (at : ℕ) → IsMarked all_after at → IsMarked all at ⊎ IsMarked new_after at
  pub only_new : (at : ℕ) → IsMarked new_after at → IsMarked new at ⊎ (IsMarked all_after at × Allowed at)

-- the same where nothing was new before
pub record IsNext (Allowed : ℕ → Type 0) (all all_after new : List Bool) : Type 0 where
  pub keeps : (at : ℕ) → IsMarked all at → IsMarked all_after at
  pub only : (at : ℕ) → IsMarked all_after at → IsMarked all at ⊎ IsMarked new at
  pub new_ones : (at : ℕ) → IsMarked new at → IsMarked all_after at × Allowed at

-- the row at a place is entered by a role of one of these
pub record GoesOn (walk : Walk) (from : List Bool) (at : ℕ) : Type 0 where
  pub place : ℕ
  pub role : List ℕ
  pub marked : IsMarked from place
  pub stands : IsRoleAt walk role place
  pub enters : Enters walk role at

-- a row is entered by a name that is reached from the first by at most so many links
pub record IsEntered (walk : Walk) (x : List ℕ) (links at : ℕ) : Type 0 where
  pub name : List ℕ
  pub reached : Walks walk links x name
  pub enters : Enters walk name at

-- the least number of links up to `most`, where there is one
abbrev pub IsDistance : Walk → List ℕ → List ℕ → ℕ → Option ℕ → Type 0
IsDistance walk x y most None = ¬ Walks walk most x y
IsDistance walk x y most (Some links) = (links ≤ most) × IsLeast most (λ (fewer : ℕ). Walks walk fewer x y) links

-- the role of a marked row has no roles
pub record HasTop (walk : Walk) (marks : List Bool) : Type 0 where
  pub at : ℕ
  pub within : at < length walk.rows
  pub marked : IsMarked marks at
  pub top : ¬ HasRoles (inner walk.terms) walk.rows (Some walk.text) (role_of (get_or walk.rows at []))
