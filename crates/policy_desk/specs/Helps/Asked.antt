-- A question for the users of a role, as a filter.
use Rattle.std.specs.Prelude.{ℕ, List, [], ◌∷◌, Option, None, Some}

-- the role, and the domain where one is named, from the column of roles on
abbrev pub asked_values : List ℕ → Option (List ℕ) → List (List ℕ)
asked_values role None = role ∷ []
asked_values role (Some domain) = role ∷ domain ∷ []
