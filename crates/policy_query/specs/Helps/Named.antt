-- Rows that are found by the names in them.
use Rattle.std.specs.Prelude.{◌≡◌, ◌<◌, true, ℕ, Bool, List, [], ◌∷◌, All, AllPairs, Option, None, Some, get_or, length}
use Rattle.std.specs.List.{Contains}
use Rattle.policy_table.specs.Tables.{Fields}

-- the rule of a user and its role, and of a domain where one is named
abbrev pub rule_of_names : List ℕ → List ℕ → Option (List ℕ) → Fields
rule_of_names user role None = user ∷ role ∷ []
rule_of_names user role (Some domain) = user ∷ role ∷ domain ∷ []

-- a place, where there is one
abbrev pub place_list : Option ℕ → List ℕ
place_list None = []
place_list (Some at) = at ∷ []

-- places of rows, among them those of the user's rules with these roles
pub record ArePlaced (user : List ℕ) (domain : Option (List ℕ)) (roles : List (List ℕ)) (rows : List Fields) (places : List ℕ) : Type 0 where
  pub within : All (λ (at : ℕ). at < length rows) places
  pub each : (role : List ℕ) (at : ℕ) → Contains roles role → at < length rows → get_or rows at [] ≡ rule_of_names user role domain → Contains places at

-- rising places of rows, among them those of all that pass the test
pub record FindRows (test : Fields → Bool) (rows : List Fields) (places : List ℕ) : Type 0 where
  pub rising : AllPairs (λ (first second : ℕ). first < second) places
  pub within : All (λ (at : ℕ). at < length rows) places
  pub each : (at : ℕ) → at < length rows → test (get_or rows at []) ≡ true → Contains places at
