-- A text that grows.
use Rattle.std.specs.Prelude.{◌≡◌, ℕ, List, ◌++◌, String, string_bytes}
use Rattle.std.specs.declared.alloc.Global.{Global}

-- these bytes were put behind the text
abbrev pub Appends : String Global → String Global → List ℕ → Type 0
Appends old new more = string_bytes new ≡ string_bytes old ++ more
