use Rattle.std.proofs.Common.{◌∙◌}
use Rattle.std.specs.Fmt.{digits}
use Rattle.loaded_work.proofs.reports.no_report.Goals as goal

-- the line computes, once its number is digits
pub returns : goal.returns
unfolding digits
returns c = c.in_ok-from_slice.ensures.items ∙ c.as_bytes.ensures.value
