-- Users and domains that are shown by references.
use Rattle.std.specs.Prelude.{ℕ, Bool, ◌&&◌, not, List}
use Rattle.std.specs.Borrow.{Bor}
use Rattle.perm_base.specs.Patterns.{is_pattern}
use Rattle.perm_base.specs.declared.shapes.RoleShape.{RoleShape}
use Rattle.rbac_query.specs.Report.{Subject}

abbrev pub shown : Bor (List ℕ) × Bor (List ℕ) → Subject
shown key = record { user = key.0.now; domain = key.1.now }

-- neither the user nor the domain is a pattern
abbrev pub is_plain : RoleShape → List ℕ → List ℕ → Bool
is_plain shape user domain = not (is_pattern shape.names user) && not (is_pattern shape.domains domain)
