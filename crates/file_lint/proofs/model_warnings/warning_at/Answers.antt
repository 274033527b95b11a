use Rattle.std.proofs.Common.{ap}
use Rattle.file_lint.specs.Findings.{finding}
use Rattle.file_lint.specs.declared.finding.Level.TheVariants.{Warning}
use Rattle.file_lint.proofs.model_warnings.warning_at.Goals as goal

pub returns : goal.returns
returns c = ap (finding c.args.at.now.line c.args.at.now.column Warning) c.in_ok-from_str.ensures
