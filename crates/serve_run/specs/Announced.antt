-- The line on standard error that tells what is served: a model's file, and how many rules p has.
use Rattle.std.specs.Prelude.{ℕ, List, ◌++◌, codes, decimal}

abbrev pub serving_line : List ℕ → ℕ → List ℕ
serving_line model rules = (codes "serving " ++ model) ++ (codes ": " ++ decimal rules) ++ codes " rules\n"
