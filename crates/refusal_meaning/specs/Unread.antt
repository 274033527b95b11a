-- Patterns of searches that cannot be read.
use Rattle.std.specs.Prelude.{◌≡◌, ℕ, false, List}
use Rattle.std.specs.List.{Contains}
use Rattle.regex_gate.specs.Found.{is_readable}

-- none of these patterns can be read
abbrev pub AreUnreadable : List (List ℕ) → Type 0
AreUnreadable patterns = (pattern : List ℕ) → Contains patterns pattern → is_readable pattern ≡ false
