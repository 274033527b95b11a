-- The files that a command names, and the name that it asks about.
use Rattle.std.specs.Prelude.{ℕ, List, Option}

pub record FileNames : Type 0 where
  pub model : List ℕ
  pub policy : List ℕ

-- a name, and its domain where one is told
pub record SubjectName : Type 0 where
  pub name : List ℕ
  pub domain : Option (List ℕ)
