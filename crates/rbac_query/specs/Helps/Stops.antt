-- Why a text is not written further.
use Rattle.std.specs.Prelude.{ℕ, ◌<◌, ⊤, List, length}
use Rattle.rbac_query.specs.declared.stop.ReportStop.{ReportStop}
use Rattle.rbac_query.specs.declared.stop.ReportStop.TheVariants as stops

-- the text has more than `most` bytes, or memory ran out
abbrev pub IsStop : ℕ → List ℕ → ReportStop → Type 0
IsStop most text stops.NoTable = ⊥
IsStop most text stops.TooLong = most < length text
IsStop most text stops.NoMemory = ⊤
