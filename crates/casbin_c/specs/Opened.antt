-- What opening a handle and taking a snapshot come to, by their codes.
use Rattle.std.specs.Prelude.{◌≡◌, ◌⊎◌, ℕ, List, Option}
use Rattle.enforce_core.specs.Opened.{Given, IsOpenedFrom, OpeningStops}
use Rattle.enforce_core.specs.Seen.{Enforcing, IsSnapshotOf}
use Rattle.run_status.specs.Statuses.{code_of, status_of}
use Rattle.run_status.specs.declared.stop.Stop.{Stop}
use Rattle.casbin_c.specs.Codes.{no_memory, ok}
use Rattle.casbin_c.specs.Handles.{Opens}
use Rattle.casbin_c.specs.Told.{WritesNothing, WritesStop}

-- the handle holds the enforcer of these texts
pub record IsOpened (given : Given) (code : ℕ) (now : Option Enforcing) (line_old line_new : List ℕ) (size : ℕ) : Type 0 where
  pub code_is : code ≡ ok
  pub opens : Opens now (IsOpenedFrom given)
  pub line : WritesNothing line_old line_new size

-- the texts open none: the handle is as it was, the code is the program's status, and its line is told
pub record IsRefused (given : Given) (code : ℕ) (before now : Option Enforcing) (line_old line_new : List ℕ) (size : ℕ) : Type 0 where
  pub stop : Stop
  pub stops : OpeningStops given stop
  pub code_is : code ≡ code_of (status_of stop)
  pub handle : now ≡ before
  pub line : WritesStop stop line_old line_new size

-- one of the two
abbrev pub OpensFrom : Given → (code : ℕ) → (before now : Option Enforcing) → (line_old line_new : List ℕ) → (size : ℕ) → Type 0
OpensFrom given code before now line_old line_new size = IsOpened given code now line_old line_new size ⊎ IsRefused given code before now line_old line_new size

-- the handle holds a snapshot of what the enforcer judges by; or memory ran out, and it is as it was
abbrev pub Takes : Enforcing → (code : ℕ) → (before now : Option Enforcing) → Type 0
Takes owner code before now = ((code ≡ ok) × Opens now (IsSnapshotOf owner)) ⊎ ((code ≡ no_memory) × (now ≡ before))
