use Rattle.std.proofs.Common.{◌++◌, ap, ◌∙◌}
use Rattle.file_lint.specs.RowWarnings.{effect_warnings, rank_warnings, subject_warnings}
use Rattle.file_lint.specs.Helps.Rows.{row_line}
use Rattle.file_lint.proofs.ToldLemmas.{three_told}
use Rattle.file_lint.proofs.row.push_policy_warnings.Goals as goal

pub returns : goal.returns
returns c =
    let line = row_line c.args.row.now in
    let rule = c.args.rule.now in
    let shapes = c.args.shapes.now in
    three_told c.args.found.now.items c.push_effect.new.found.items c.push_rank.new.found.items c.push_subject.new.found.items (effect_warnings line rule shapes.effect_column) (rank_warnings line rule shapes.ranked)
    (subject_warnings line rule shapes.subject_column c.find-relation.result) c.in_ok-push_effect.ensures c.in_ok-push_rank.ensures c.in_ok-push_subject.ensures
    ∙ ap (λ relation. c.args.found.now.items ++ (effect_warnings line rule shapes.effect_column ++ rank_warnings line rule shapes.ranked ++ subject_warnings line rule shapes.subject_column relation)) c.find-relation.ensures
