use Rattle.file_lint.specs.Helps.Rows.{row_line}
use Rattle.std.proofs.Common.{sym}
use Rattle.file_lint.proofs.RowLemmas.{row_found}
use Rattle.file_lint.proofs.judge.Judge.push_rule.Goals as goal

pub returns : goal.returns
returns c =
    row_found c.args.self.now.model.now c.args.self.now.shapes.now c.args.seen.now.policy (row_line c.args.row.now) c.args.entry.now c.in_ok-found.found.items c.push_own_warnings.new.found.items c.push_held_fields.new.found.items c.in_ok-ordered.ordered.items
    c.args.findings.now.items c.push_all.new.findings.items c.push_all.result c.in_ok-found.ensures (c.in_ok-push_own_warnings.ensures c.args.self.now.model.now (sym c.effect-effect.ensures)) c.in_ok-push_held_fields.ensures c.in_ok-ordered.ensures c.push_all.ensures
