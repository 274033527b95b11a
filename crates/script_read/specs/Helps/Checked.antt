-- The lines of a text that was checked, and how many of their items are left.
use Rattle.std.specs.Prelude.{◌<◌, ◌+◌, ◌-◌, ◌==◌, ◌^◌, ℕ, Bool, false, List, length, min, Option, Some, None}
use Rattle.script_read.specs.ItemLines.{ScriptLines}
use Rattle.script_read.specs.Said.{Said}
use Rattle.script_read.specs.Script.{SaysFrom}

-- whether none is left of so many
abbrev pub is_spent : Option ℕ → Bool
is_spent None = false
is_spent (Some count) = count == 0

-- so many less
abbrev pub less_by : ℕ → Option ℕ → Option ℕ
less_by count None = None
less_by count (Some most) = Some (most - count)

-- so many, or as many as are left where these are fewer
abbrev pub limited : Option ℕ → ℕ → ℕ
limited None count = count
limited (Some most) count = min count most

-- the lines from a later one on, of which so many items less are meant
abbrev pub lines_behind : (count number : ℕ) → List ℕ → ScriptLines → ScriptLines
lines_behind count number text lines = record lines { number = number; text = text; most = less_by count lines.most }

-- the lines of a text that was checked, numbered from here on
pub record AreChecked (json : Bool) (number : ℕ) (text : List ℕ) : Type 0 where
  pub few : number + length text < 2 ^ 64
  pub checked : (items : List Said) × SaysFrom json number text items
