use Rattle.std.proofs.Common.{rules, tests, ◌∙◌}
use Rattle.std.proofs.lemmas.Iterator.{YieldsList-from_slice}
use Rattle.std.proofs.lemmas.Iterator.Consumers.{YieldsList-from_filter, count_from_yields_List}
use Rattle.std.proofs.lemmas.List.Sums.{length-filter}
use Rattle.file_lint.specs.Findings.{is_same}
use Rattle.file_lint.specs.declared.finding.Finding.{Finding}
use Rattle.file_lint.proofs.finding_text.count.Goals as goal

-- the findings of the level, one after the other
pub returns : goal.returns
returns c =
    count_from_yields_List c.filter.result c.count.result c.count.ensures.ran
    (YieldsList-from_filter _ (λ (found : Finding). is_same c.args.level found.level) (YieldsList-from_slice c.args.findings.now cc) c.filter.ensures.closure (λ x b q k. search (rules, tests)))
    ∙ length-filter (λ (found : Finding). is_same c.args.level found.level) c.args.findings.now
