use Rattle.std.proofs.Common.{ℕ, List, false, length, ap, subst, arith}
use Rattle.policy_csv.specs.Lines.{policy_lines}
use Rattle.policy_table.specs.Tables.{without_rules}
use Rattle.file_lint.specs.PolicyErrors.{LintsLines}
use Rattle.file_lint.proofs.LineLemmas.{finds_bytes, finds_lines, first_of_bytes, first_of_lines}
use Rattle.file_lint.proofs.policy.lint_policy.Goals as goal

pub lines_found-requires-clause-short : goal.lines_found-requires-clause-short
lines_found-requires-clause-short c = omega (arith, ap (λ (b : List ℕ). length b) c.in-Ok.ensures.cases.0, c.requires.short)

pub returns-in_default : goal.returns-in_default
returns-in_default c =
    let has = c.in_ok-fault.ensures in
    let is = first_of_bytes c.args.shapes.now c.args.bytes.now c.in_ok-fault.fault has c.in_default.ensures.cases.0 in
    record { has = has; finds = finds_bytes c.args.model.now c.args.shapes.now c.args.bytes.now c.in_ok-fault.fault c.in_ok-only.only.items is c.in_ok-only.ensures }

pub returns : goal.returns
returns c =
    let has = c.in_ok-fault.ensures in
    let no = first_of_lines c.args.shapes.now c.args.bytes.now c.in_ok-fault.fault has c.in-Ok.ensures.cases.1 in
    let found = c.in_ok-findings.findings.items in
    let are = subst (λ (b : List ℕ). LintsLines c.args.model.now c.args.shapes.now c.in_ok-fault.fault (without_rules false) (policy_lines b) found) c.in-Ok.ensures.cases.0 c.in_ok-findings.ensures in
    record { has = has; finds = finds_lines c.args.model.now c.args.shapes.now c.args.bytes.now c.in_ok-fault.fault found no are }
