-- What parts of names say.
use Rattle.std.specs.Prelude.{ℕ, true, false, cond, List, [], ◌∷◌, codes, Option, Some, None}
use Rattle.std.specs.Str.{bytes_eq}
use Rattle.matcher_read.specs.Expression.{Expression, truth, request, policy}

-- the truth that a word says
abbrev pub truth_of : ℕ → List ℕ → Option Expression
truth_of at word = cond (bytes_eq word (codes "true")) (Some (truth at true)) (cond (bytes_eq word (codes "false")) (Some (truth at false)) None)

-- the column of the request and the attributes that names behind `r` say
abbrev pub request_of : ℕ → List (List ℕ) → Expression
request_of at [] = request at [] []
request_of at (column ∷ path) = request at column path

-- the column of the policy that a name behind `p` says, where it stands alone
abbrev pub policy_of : ℕ → List (List ℕ) → Option Expression
policy_of at [] = None
policy_of at (column ∷ []) = Some (policy at column)
policy_of at (column ∷ next ∷ names) = None
