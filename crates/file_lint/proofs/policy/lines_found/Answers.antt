use Rattle.std.proofs.Common.{◌+◌, List, false, length, ap, ◌∙◌, arith, rules}
use Rattle.policy_csv.specs.Lines.{policy_lines}
use Rattle.policy_table.specs.Tables.{Fields, without_rules}
use Rattle.text_parts.specs.Full.{full_lines}
use Rattle.text_parts.specs.Numbered.{line}
use Rattle.file_lint.specs.PolicyErrors.{LintsLines}
use Rattle.file_lint.proofs.KeptLemmas.{few_after}
use Rattle.file_lint.proofs.LineLemmas.{line_goes, lines_begin, lines_end}
use Rattle.file_lint.proofs.policy.lines_found.Goals as goal

pub loop-at-init : goal.loop-at-init
loop-at-init c = record {
  goes = lines_begin c.args.model.now c.args.shapes.now c.args.first c.no_tables-seen.result.policy (full_lines 1 c.args.text.now) c.new-findings.result.items c.no_tables-seen.ensures.policy c.new-findings.ensures.items;
  few = λ table. let none = ap (λ (l : List Fields). length l) (c.no_tables-seen.ensures.rows table) in omega (arith, none);
  within = omega arith;
  utf8 = search rules;
}

pub push_findings-requires-clause-looked : goal.push_findings-requires-clause-looked
push_findings-requires-clause-looked c = c.as_slice-looked.ensures.value ∙ c.in_ok-columns.ensures

pub push_findings-requires-clause-few : goal.push_findings-requires-clause-few
push_findings-requires-clause-few c = λ table. omega (arith, c.loop-at.invariant.few table, c.in-Some.ensures.shorter, c.requires.short)

pub loop-at-preserved : goal.loop-at-preserved
loop-at-preserved c =
    let next = line c.in-Some.at c.in-Some.line.now in
    record {
      goes = line_goes c.args.model.now c.args.shapes.now c.args.first c.loop-at.seen.policy c.push_findings.new.seen.policy next (full_lines (c.in-Some.at + 1) c.in-Some.after.now) (full_lines c.loop-at.number c.loop-at.rest.now) c.loop-at.findings.items c.push_findings.new.findings.items
          (LintsLines c.args.model.now c.args.shapes.now c.args.first (without_rules false) (policy_lines c.args.text.now)) c.in-Some.ensures.first c.in_ok-push_findings.ensures c.loop-at.invariant.goes;
      few = λ table. omega (arith, few_after c.args.model.now c.args.shapes.now c.args.first next c.loop-at.seen.policy c.push_findings.new.seen.policy c.loop-at.findings.items c.push_findings.new.findings.items c.requires.valid.roles c.in_ok-push_findings.ensures table, c.loop-at.invariant.few table, c.in-Some.ensures.shorter);
      within = omega (arith, c.in-Some.ensures.within, c.loop-at.invariant.within);
      utf8 = search rules;
    }

pub returns : goal.returns
returns c = lines_end c.args.model.now c.args.shapes.now c.args.first c.loop-at.seen.policy (full_lines c.loop-at.number c.loop-at.rest.now) c.loop-at.findings.items
    (LintsLines c.args.model.now c.args.shapes.now c.args.first (without_rules false) (policy_lines c.args.text.now)) c.in_default.ensures.none c.loop-at.invariant.goes
