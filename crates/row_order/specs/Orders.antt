-- An order of ids.
use Rattle.std.specs.Prelude.{ℕ, ◌==◌, List, if◌then◌else◌, map}

-- the ids in their order, and below what bound an id has room
pub record Order : Type 0 where
  pub ids : List ℕ
  pub slots : ℕ

-- the ids with one of them in the place of another
abbrev pub renamed : ℕ → ℕ → List ℕ → List ℕ
renamed old new ids = map (λ id. if id == old then new else id) ids
