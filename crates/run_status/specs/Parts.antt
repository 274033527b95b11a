-- What a run reads, and the report that it writes: how messages call it, and how many bytes it has at most.
use Rattle.std.specs.Prelude.{ℕ, List, codes}
use Rattle.run_status.specs.declared.part.Part.{Part}
use Rattle.run_status.specs.declared.part.Part.TheVariants.{Model, Policy, Input, Report}

abbrev pub part_name : Part → List ℕ
part_name Model = codes "model"
part_name Policy = codes "policy"
part_name Input = codes "input"
part_name Report = codes "report"

abbrev pub limit_of : Part → ℕ
limit_of Model = 65536
limit_of Policy = 16777216
limit_of Input = 16777216
limit_of Report = 16777216
