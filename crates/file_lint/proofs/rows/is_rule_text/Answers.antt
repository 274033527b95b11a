use Rattle.matcher_read.specs.Expression.{expression}
use Rattle.file_lint.proofs.rows.is_rule_text.Goals as goal

pub returns-in_default : goal.returns-in_default
returns-in_default c = (expression c.in_default.field-0, c.in_default.ensures.found)
