-- What a task writes.
use Rattle.std.specs.Prelude.{◌≡◌, ℕ, ⊤, List}
use Rattle.log_ship.specs.declared.packet.Packet.{Packet}
use Rattle.model_conf.specs.ModelText.{ModelParts}
use Rattle.perm_base.specs.declared.shapes.Shapes.{Shapes}
use Rattle.policy_csv.specs.Printed as policy
use Rattle.policy_table.specs.Tables.{Policy}
use Rattle.run_status.specs.Hits.{hits_line}
use Rattle.run_status.specs.Told.{IsTold}
use Rattle.script_read.specs.Said.{Said}
use Rattle.casbin_run.specs.declared.job.Task.{Task}
use Rattle.casbin_run.specs.declared.job.Task.TheVariants.{Enforce, Cached, Explain, Serve, Share, Check, Format, Implicit, Report, Ship, Follow}
use Rattle.cached_work.specs.CacheHits.{AreHits}
use Rattle.loaded_work.specs.Explained.{IsExplained}
use Rattle.loaded_work.specs.Followed.{IsFollowed}
use Rattle.loaded_work.specs.Roles.{IsImplied, IsLong, IsReported, IsShort}
use Rattle.loaded_work.specs.Shipped.{ship_text}
use Rattle.casbin_run.specs.Texts.{IsOfLines, IsOfSharedLines, IsWhole, check_text}
use Rattle.loaded_work.specs.Sinks.{Taken}

-- the text of a task: the lines of its answers, or with near misses below them; what is seen of the model and the policy, or of the policy alone; what roles imply; the packets of what items publish; what becomes of
-- packets that are taken
abbrev pub Writes : Task → ModelParts → Shapes → Policy → List Said → List Packet → List (List (List ℕ)) → List (List ℕ) → List ℕ → Type 0
Writes (Enforce json) parts shapes tables items packets refused pieces text = IsOfLines parts shapes tables items refused pieces text
Writes (Cached json capacity) parts shapes tables items packets refused pieces text = IsOfLines parts shapes tables items refused pieces text
Writes (Explain json most) parts shapes tables items packets refused pieces text = IsExplained most parts shapes tables items refused pieces text
Writes (Serve json) parts shapes tables items packets refused pieces text = IsOfLines parts shapes tables items refused pieces text
Writes (Share json workers) parts shapes tables items packets refused pieces text = IsOfSharedLines workers parts shapes tables items refused pieces text
Writes Check parts shapes tables items packets refused pieces text = IsWhole (λ whole. whole ≡ check_text parts tables) refused pieces text
Writes Format parts shapes tables items packets refused pieces text = IsWhole (λ whole. whole ≡ policy.printed tables) refused pieces text
Writes (Implicit subject) parts shapes tables items packets refused pieces text = IsWhole (IsImplied parts shapes tables subject) refused pieces text
Writes Report parts shapes tables items packets refused pieces text = IsWhole (IsReported shapes tables) refused pieces text
Writes Ship parts shapes tables items packets refused pieces text = IsWhole (λ whole. whole ≡ ship_text shapes tables items) refused pieces text
Writes Follow parts shapes tables items packets refused pieces text = IsWhole (IsFollowed shapes tables packets) refused pieces text

-- the text of a report is not longer than its limit
abbrev pub HasRoom : Task → Shapes → Policy → Type 0
HasRoom (Enforce json) shapes tables = ⊤
HasRoom (Cached json capacity) shapes tables = ⊤
HasRoom (Explain json most) shapes tables = ⊤
HasRoom (Serve json) shapes tables = ⊤
HasRoom (Share json workers) shapes tables = ⊤
HasRoom Check shapes tables = ⊤
HasRoom Format shapes tables = ⊤
HasRoom (Implicit subject) shapes tables = ⊤
HasRoom Report shapes tables = IsShort shapes tables
HasRoom Ship shapes tables = ⊤
HasRoom Follow shapes tables = ⊤

-- the task is a report, whose text is longer
abbrev pub IsTooLong : Task → Shapes → Policy → Type 0
IsTooLong Report shapes tables = IsLong shapes tables
IsTooLong _ shapes tables = ⊥

-- what `err` takes of a task that is done, whose text this is: nothing, or how many requests were answered from the cache
abbrev pub Tells : Task → ModelParts → Shapes → Policy → List Said → List (List (List ℕ)) → List ℕ → Taken → Taken → Type 0
Tells (Cached json capacity) parts shapes tables items refused text err err_now =
    (hits : ℕ) × AreHits capacity parts shapes tables items refused text hits × IsTold err.bytes err_now.bytes err.faults err_now.faults (hits_line hits)
Tells _ parts shapes tables items refused text err err_now = err_now.bytes ≡ err.bytes
