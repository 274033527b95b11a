-- The edit of a number in a log: edits are numbered from 1, one a version, and those up to the log's start are dropped.
use Rattle.std.specs.Prelude.{◌≡◌, ℕ, ◌-◌, ◌==◌, ◌||◌, nat_le, nat_lt, List, Option, Some, None, if◌then◌else◌, slice_get}
use Rattle.policy_table.specs.declared.change.Change.{Change}
use Rattle.version_log.specs.Log.{Logged, versions}
use Rattle.policy_query.specs.declared.refused.QueryRefused.{QueryRefused}
use Rattle.policy_query.specs.declared.refused.QueryRefused.TheVariants.{NoEdit, Dropped}

-- why there is no edit of this number
abbrev pub edit_refusal : Logged → ℕ → Option QueryRefused
edit_refusal log number =
    if number == 0 || nat_lt (versions log) number then Some (NoEdit (versions log))
    else if nat_le number log.start then Some (Dropped log.start)
    else None

-- the edit of this number
pub record IsEdit (log : Logged) (number : ℕ) (edit : List Change) : Type 0 where
  pub kept : edit_refusal log number ≡ None
  pub there : slice_get log.tail (number - log.start - 1) ≡ Some edit
