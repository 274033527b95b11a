-- What pushing bytes into a sink comes to.
use Rattle.std.specs.Prelude.{◌≡◌, ◌<◌, ◌≤◌, ℕ, List, Option, Result, IfOk, OnOk, OnErr, length, take}
use Rattle.outside.specs.Faults.{Rose}
use Rattle.outside.specs.Told.{TookFront, with_back}
use Rattle.outside.specs.declared.fault.Failed.{Failed}

-- one push of a piece: the sink took a front of it, some of it where it has any; or nothing, and a fault is counted
pub record PushesSome (before now : Option (List ℕ)) (faults_before faults_now : ℕ) (piece : List ℕ) (result : Result ℕ Failed) : Type 0 where
  pub within : IfOk result (λ count. count ≤ length piece)
  pub some : IfOk result (λ count. 0 < length piece → 0 < count)
  pub took : IfOk result (λ count. now ≡ with_back before (take count piece))
  pub kept : OnErr result (now ≡ before)
  pub counted : faults_before ≤ faults_now
  pub failed : OnErr result (Rose faults_before faults_now)

-- a text that was pushed whole; or a front of it, and a fault is counted
pub record PushesAll (before now : Option (List ℕ)) (faults_before faults_now : ℕ) (text : List ℕ) (result : Result (Unit {0}) Failed) : Type 0 where
  pub took : OnOk result (now ≡ with_back before text)
  pub stopped : OnErr result (TookFront before now text)
  pub counted : faults_before ≤ faults_now
  pub failed : OnErr result (Rose faults_before faults_now)
