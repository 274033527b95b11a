-- Places of rows that are known beforehand, by which a question goes over few rows in place of all.
use Rattle.std.specs.Prelude.{◌≡◌, ℕ, ◌<◌, List, [], All, Option, filter, get_or, length, map}
use Rattle.policy_table.specs.Tables.{Fields}
use Rattle.policy_query.specs.Names.{is_asked}

-- the rows at places
abbrev pub rows_at : List Fields → List ℕ → List Fields
rows_at rows places = map (λ (at : ℕ). get_or rows at []) places

-- a question for names picks from the rows at these places what it picks from all
pub record FindAsked (asked : ℕ) (name : List ℕ) (domain : Option (List ℕ)) (rows : List Fields) (places : List ℕ) : Type 0 where
  pub within : All (λ (at : ℕ). at < length rows) places
  pub same : filter (is_asked asked name domain) (rows_at rows places) ≡ filter (is_asked asked name domain) rows
