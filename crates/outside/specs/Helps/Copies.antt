-- Why bytes in memory were not fetched.
use Rattle.std.specs.Prelude.{ℕ, ◌<◌, List, length, ⊤}
use Rattle.outside.specs.declared.shelf.Fetch.{Fetch}
use Rattle.outside.specs.declared.shelf.Fetch.TheVariants.{Absent, Failed, TooLong, NoMemory}

-- a copy stops because the bytes are too many, or for want of memory
abbrev pub CopyStops : ℕ → List ℕ → Fetch → Type 0
CopyStops most bytes TooLong = most < length bytes
CopyStops most bytes NoMemory = ⊤
CopyStops most bytes Absent = ⊥
CopyStops most bytes Failed = ⊥
