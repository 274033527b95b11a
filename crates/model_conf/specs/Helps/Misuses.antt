-- What private functions tell of a matcher's uses; only they cite this.
use Rattle.std.specs.Prelude.{ℕ, ◌==◌, ◌&&◌, if◌then◌else◌, nat_lt, List, Option, Some, None}
use Rattle.std.specs.List.{list_any}
use Rattle.std.specs.Str.{bytes_eq}
use Rattle.perm_base.specs.declared.shapes.RoleShape.{RoleShape}
use Rattle.model_conf.specs.Uses.{Use, of_request, of_policy, of_relation, names_of}
use Rattle.model_conf.specs.declared.fault.ModelFault.{ModelFault}
use Rattle.model_conf.specs.declared.fault.ModelFault.TheVariants as fault
use Rattle.model_conf.specs.declared.uses.Misuse.{Misuse}
use Rattle.model_conf.specs.declared.uses.Misuse.TheVariants.{Column, Role}

abbrev pub misuse_of : Use → Misuse
misuse_of (of_request at column) = Column at
misuse_of (of_policy at column) = Column at
misuse_of (of_relation at number names) = Role at

abbrev pub misuse_place : Misuse → ℕ
misuse_place (Column at) = at
misuse_place (Role at) = at

-- the one at the lesser place, and at one place the first
abbrev pub earlier : Option Misuse → Option Misuse → Option Misuse
earlier None other = other
earlier (Some first) None = Some first
earlier (Some first) (Some other) = if nat_lt (misuse_place other) (misuse_place first) then Some other else Some first

abbrev pub column_misuse : List (List ℕ) → ℕ → List ℕ → Option Misuse
column_misuse columns at column = if list_any (bytes_eq column) columns then None else Some (Column at)

abbrev pub role_misuse : List RoleShape → ℕ → ℕ → ℕ → Option Misuse
role_misuse relations at number names = if list_any (λ (shape : RoleShape). shape.number == number && names == names_of shape) relations then None else Some (Role at)

abbrev pub misuse_fault : Misuse → ModelFault
misuse_fault (Column at) = fault.UnknownColumn at
misuse_fault (Role at) = fault.RoleUse at
