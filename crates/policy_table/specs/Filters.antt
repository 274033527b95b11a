-- Filters of rules: values from a column on, of which the empty ones are left open (Casbin, GetFilteredPolicy).
use Rattle.std.specs.Prelude.{ℕ, Bool, true, false, ◌==◌, ◌||◌, ◌&&◌, [], ◌∷◌, length, drop}
use Rattle.std.specs.Str.{bytes_eq}
use Rattle.policy_table.specs.Tables.{Fields}

-- each value is empty or equals the field beside it
abbrev pub fits_values : Fields → Fields → Bool
fits_values fields [] = true
fits_values [] (value ∷ values) = false
fits_values (field ∷ fields) (value ∷ values) = (length value == 0 || bytes_eq value field) && fits_values fields values

-- the rule fits the values from a place on
abbrev pub fits_filter : Fields → ℕ → Fields → Bool
fits_filter rule at values = fits_values (drop at rule) values
