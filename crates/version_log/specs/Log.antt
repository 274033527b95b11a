-- A log of edits: the version that it starts at, and the edits since, one a version.
use Rattle.std.specs.Prelude.{◌≡◌, ℕ, ◌+◌, ◌≤◌, List, length, drop}
use Rattle.policy_table.specs.declared.change.Change.{Change}

-- what contracts see of a log: its start, its edits, and how many more it takes without memory
pub record Logged : Type 0 where
  pub start : ℕ
  pub tail : List (List Change)
  pub spare : ℕ

-- the number of the version after all edits
abbrev pub versions : Logged → ℕ
versions log = log.start + length log.tail

-- the greatest number of a version
abbrev pub most_versions : ℕ
most_versions = 4000000000

-- the log stands for a history of edits: its own edits are those from its start on
pub record Stands (log : Logged) (history : List (List Change)) : Type 0 where
  pub within : log.start ≤ length history
  pub tail : log.tail ≡ drop log.start history
