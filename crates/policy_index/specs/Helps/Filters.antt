-- The columns and the texts of a filter that are not open.
use Rattle.std.specs.Prelude.{ℕ, ◌+◌, ◌==◌, not, List, [], ◌∷◌, length, filter, if◌then◌else◌}

-- the columns of the values that are not empty, where the first stands at this column
abbrev pub columns_from : ℕ → List (List ℕ) → List ℕ
columns_from at [] = []
columns_from at (value ∷ values) = if length value == 0 then columns_from (at + 1) values else at ∷ columns_from (at + 1) values

-- these values
abbrev pub texts_of : List (List ℕ) → List (List ℕ)
texts_of values = filter (λ (value : List ℕ). not (length value == 0)) values
