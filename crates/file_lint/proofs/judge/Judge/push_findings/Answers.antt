use Rattle.std.proofs.Common.{List, ◌++◌, ◌∷◌, [], refl, ap, ◌∙◌}
use Rattle.file_lint.specs.declared.finding.Finding.{Finding}
use Rattle.file_lint.specs.Helps.Rows.{row_line}
use Rattle.file_lint.proofs.RowLemmas.{line_at_fault, line_by_itself}
use Rattle.file_lint.proofs.judge.Judge.push_findings.Goals as goal

-- the line by itself, and the line of the told fault
pub returns-in_default : goal.returns-in_default
returns-in_default c =
    line_by_itself c.args.self.now.model.now c.args.self.now.shapes.now c.args.first (row_line c.args.row.now) c.args.seen.now.policy c.push_line.new.seen.policy c.args.findings.now.items c.push_line.new.findings.items c.given_number.result c.push_line.result
    c.given_number.ensures c.in_default.ensures c.push_line.ensures

pub returns : goal.returns
returns c =
    line_at_fault c.args.self.now.model.now c.args.self.now.shapes.now c.args.first (row_line c.args.row.now) c.args.seen.now.policy c.args.seen.now.policy c.args.findings.now.items c.push.new.self.items c.given_number.result c.in-Some.why c.given_number.ensures c.in-Some.ensures
    refl (c.in_ok-push.ensures.items ∙ ap (λ (f : Finding). c.args.findings.now.items ++ f ∷ []) c.in_ok-error.ensures)
