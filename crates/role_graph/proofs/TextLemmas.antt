-- The roles of one user, as a list.
use Rattle.std.proofs.Common.{◌≡◌, List, [], ◌∷◌, length, get_or, ap, arith}

-- the only one
pub only_role : {X : Type 0} (roles : List X) (role : X) → length roles ≡ 1 → role ≡ get_or roles 0 role → role ∷ [] ≡ roles
only_role [] role one is = absurd (omega (arith, one))
only_role (first ∷ []) role one is = ap (λ r. r ∷ []) is
only_role (first ∷ second ∷ roles) role one is = absurd (omega (arith, one))
