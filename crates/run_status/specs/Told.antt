-- What telling a line comes to, where a sink may fail.
use Rattle.std.specs.Prelude.{◌≡◌, ◌⊎◌, ◌≤◌, ℕ, List, Option}
use Rattle.outside.specs.Faults.{Rose}
use Rattle.outside.specs.Told.{TookFront, with_back}

-- behind what it had, the sink took a front of the line, and all of it where no fault is counted
pub record IsTold (before now : Option (List ℕ)) (faults_before faults_now : ℕ) (line : List ℕ) : Type 0 where
  pub front : TookFront before now line
  pub whole : (now ≡ with_back before line) ⊎ Rose faults_before faults_now
  pub counted : faults_before ≤ faults_now
