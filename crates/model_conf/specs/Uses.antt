-- The columns and relations that a matcher names, and the first that the model does not declare so.
use Rattle.std.specs.Prelude.{ℕ, ◌==◌, ◌&&◌, Bool, not, if◌then◌else◌, nat_lt, List, [], ◌∷◌, ◌++◌, Option, Some, None, filter}
use Rattle.std.specs.List.{list_any}
use Rattle.std.specs.Str.{bytes_eq}
use Rattle.matcher_read.specs.Expression.{Callee, function, relation, unknown, Expression, text, whole, truth, request, policy, evaluated, negation, opposite, binary, among, call, Expressions, no_more, one_more, count}
use Rattle.perm_base.specs.declared.shapes.RoleShape.{RoleShape}

-- a column, or a relation and how many names it is asked with, at its place
pub data Use : Type 0 where
  of_request : ℕ → List ℕ → Use
  of_policy : ℕ → List ℕ → Use
  of_relation : ℕ → ℕ → ℕ → Use

-- what a call names itself
abbrev pub called : ℕ → Callee → ℕ → List Use
called at (relation number) names = of_relation at number names ∷ []
called at (function f) names = []
called at (unknown parts) names = []

-- what an expression names
abbrev mutual
  pub uses : Expression → List Use
  uses (text at bytes) = []
  uses (whole at n) = []
  uses (truth at b) = []
  uses (request at column path) = of_request at column ∷ []
  uses (policy at column) = of_policy at column ∷ []
  uses (evaluated at column) = of_policy at column ∷ []
  uses (negation at e) = uses e
  uses (opposite at e) = uses e
  uses (binary at op e f) = uses e ++ uses f
  uses (among at e es) = uses e ++ all_uses es
  uses (call at callee es) = called at callee (count es) ++ all_uses es

  pub all_uses : Expressions → List Use
  all_uses no_more = []
  all_uses (one_more e es) = uses e ++ all_uses es

-- how many names a relation is asked with
abbrev pub names_of : RoleShape → ℕ
names_of shape = if shape.with_domain then 3 else 2

-- the column is one of these; the relation is declared, and asked with its number of names
abbrev pub is_declared : List (List ℕ) → List (List ℕ) → List RoleShape → Use → Bool
is_declared requests policies relations (of_request at column) = list_any (bytes_eq column) requests
is_declared requests policies relations (of_policy at column) = list_any (bytes_eq column) policies
is_declared requests policies relations (of_relation at number names) = list_any (λ (shape : RoleShape). shape.number == number && names == names_of shape) relations

abbrev pub place_of : Use → ℕ
place_of (of_request at column) = at
place_of (of_policy at column) = at
place_of (of_relation at number names) = at

-- the one at the least place, and of those at one place the first
abbrev pub sooner : Use → Option Use → Use
sooner first None = first
sooner first (Some other) = if nat_lt (place_of other) (place_of first) then other else first

abbrev pub first_by_place : List Use → Option Use
first_by_place [] = None
first_by_place (first ∷ others) = Some (sooner first (first_by_place others))

-- the first use, by its place in the text, that is not declared so
unfoldable pub first_undeclared : List (List ℕ) → List (List ℕ) → List RoleShape → List Use → Option Use
first_undeclared requests policies relations all = first_by_place (filter (λ (use_ : Use). not (is_declared requests policies relations use_)) all)
