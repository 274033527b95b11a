-- What one pull of bytes out of a source comes to.
use Rattle.std.specs.Prelude.{◌≡◌, ◌<◌, ◌≤◌, ℕ, [], List, Option, Result, IfOk, IfSome, OnErr, length, take}
use Rattle.outside.specs.Ends.{ends_after, is_end}
use Rattle.outside.specs.Faults.{Rose}
use Rattle.outside.specs.Told.{with_front}
use Rattle.outside.specs.declared.fault.Failed.{Failed}

-- the next bytes stand at the front of the buffer, and none of them only at the end; or nothing came, and a fault is counted
pub record Pulls (left now : Option (List ℕ)) (ends ends_now : Option ℕ) (faults_before faults_now : ℕ) (had has : List ℕ) (result : Result ℕ Failed) : Type 0 where
  pub within : IfOk result (λ count. count ≤ length had)
  pub given : IfOk result (λ count. left ≡ with_front (take count has) now)
  pub ended : IfOk result (λ count. count ≡ 0 → 0 < length had → IfSome left (λ bytes. bytes ≡ []))
  pub told : ends_now ≡ ends_after ends (is_end had result)
  pub kept : OnErr result (now ≡ left)
  pub counted : faults_before ≤ faults_now
  pub failed : OnErr result (Rose faults_before faults_now)
