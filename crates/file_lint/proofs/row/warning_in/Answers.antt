use Rattle.std.proofs.Common.{ℕ, ap, ◌∙◌}
use Rattle.file_lint.specs.Columns.{field_column}
use Rattle.file_lint.specs.Findings.{finding}
use Rattle.file_lint.specs.declared.finding.Level.TheVariants.{Warning}
use Rattle.file_lint.proofs.row.warning_in.Goals as goal

pub returns : goal.returns
returns c =
    ap (λ (column : ℕ). finding c.args.row.now.number column Warning c.from_string.result) c.field_column.ensures
    ∙ ap (finding c.args.row.now.number (field_column c.args.before c.args.row.now.text.now) Warning) c.from_string.ensures
