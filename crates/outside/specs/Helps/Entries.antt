-- The entries of a shelf in memory.
use Rattle.std.specs.Prelude.{List, ℕ, map, Bool, bytes_eq}
use Rattle.outside.specs.declared.memory.entries.Entry.{Entry}

-- the names and bytes of entries
abbrev pub named_bytes : List Entry → List (List ℕ × List ℕ)
named_bytes entries = map (λ (entry : Entry). (entry.name, entry.bytes.items)) entries

-- the entry has the name
abbrev pub has_name : List ℕ → Entry → Bool
has_name name entry = bytes_eq entry.name name
