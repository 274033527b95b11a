-- What one fetch of a file from a shelf comes to.
use Rattle.std.specs.Prelude.{◌≡◌, ◌<◌, ◌≤◌, ◌↔◌, ℕ, [], ◌∷◌, List, Option, Result, IfOk, IsErrOf, length}
use Rattle.std.specs.Global.{Vec}
use Rattle.outside.specs.Faults.{Rose}
use Rattle.outside.specs.Files.{Files, Holds, Lacks, OfFile}
use Rattle.outside.specs.Log.{Adds, call, has_failed}
use Rattle.outside.specs.declared.fetch_log.FetchCall.{FetchCall}
use Rattle.outside.specs.declared.shelf.Fetch.{Fetch}
use Rattle.outside.specs.declared.shelf.Fetch.TheVariants.{Absent, Failed, TooLong}

-- the bytes of the name, at most `most`; or why not: only a failure is counted, and each call is told
pub record Fetches (files now : Option Files) (calls calls_now : Option (List FetchCall)) (faults_before faults_now : ℕ) (name : List ℕ) (most : ℕ) (result : Result (Vec ℕ) Fetch) : Type 0 where
  pub same_files : now ≡ files
  pub found : IfOk result (λ bytes. Holds files name bytes.items)
  pub within : IfOk result (λ bytes. length bytes.items ≤ most)
  pub absent : IsErrOf result Absent ↔ Lacks files name
  pub uncounted : IsErrOf result Absent → faults_now ≡ faults_before
  pub too_long : IsErrOf result TooLong → OfFile files name (λ bytes. most < length bytes)
  pub told : Adds calls calls_now (call name (has_failed result) ∷ [])
  pub counted : faults_before ≤ faults_now
  pub failed : IsErrOf result Failed → Rose faults_before faults_now
