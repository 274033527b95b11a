use Rattle.std.proofs.Common.{ap}
use Rattle.file_lint.specs.Findings.{finding}
use Rattle.file_lint.specs.declared.finding.Level.TheVariants.{Error}
use Rattle.file_lint.proofs.model_words.error_at.Goals as goal

pub returns : goal.returns
returns c = ap (finding c.args.at.now.line c.args.at.now.column Error) c.from_string.ensures
