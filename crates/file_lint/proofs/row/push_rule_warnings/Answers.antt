use Rattle.file_lint.specs.RowWarnings.{order_warnings, policy_warnings}
use Rattle.file_lint.specs.Helps.Rows.{row_line}
use Rattle.file_lint.proofs.ToldLemmas.{two_told}
use Rattle.file_lint.proofs.row.push_rule_warnings.Goals as goal

pub returns : goal.returns
returns c =
    let line = row_line c.args.row.now in
    let rule = c.args.rule.now in
    let shapes = c.args.shapes.now in
    two_told c.args.found.now.items c.push_policy_warnings.new.found.items c.push_order.new.found.items (policy_warnings shapes line rule) (order_warnings c.args.effect c.args.seen.now.policy line rule shapes.effect_column)
    c.in_ok-push_policy_warnings.ensures c.in_ok-push_order.ensures
