-- Texts that findings quote.
use Rattle.std.specs.Prelude.{ℕ, List, ◌++◌, codes}

abbrev pub quoted : List ℕ → List ℕ
quoted text = codes "\"" ++ text ++ codes "\""
