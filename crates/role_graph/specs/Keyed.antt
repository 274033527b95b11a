-- Maps by names: what is found at one.
use Rattle.std.specs.Prelude.{ℕ, List, Option}
use Rattle.std.specs.Map.{lookup}
use Rattle.std.specs.Str.{bytes_eq}

-- what is found at a text
abbrev pub found : {X : Type 0} → List (List ℕ × X) → List ℕ → Option X
found entries text = lookup (bytes_eq text) entries
