use Rattle.std.proofs.Common.{◌+◌, ◌++◌, ◌∙◌, All, List, ap, rules, subst, sym, arith}
use Rattle.std.proofs.lemmas.List.{take_all}
use Rattle.std.specs.String.{string_bytes}
use Rattle.perm_base.specs.LineEnds.{AreFields}
use Rattle.perm_base.specs.TableNames.{name_of}
use Rattle.text_parts.specs.Lines.{with_ends}
use Rattle.policy_table.specs.Tables.{Fields, rows}
use Rattle.policy_table.proofs.CallerLemmas.{next_row, no_more_rows}
use Rattle.perm_base.proofs.CallerLemmas.{plain_name}
use Rattle.policy_csv.proofs.PushLemmas.{fields_more, lines_named, pushed_line}
use Rattle.policy_csv.proofs.printer.push_table.Goals as goal

pub push_line-requires : goal.push_line-requires
push_line-requires c = plain_name c.args.table c.in-Some.name.now (sym c.in-Some.ensures)

pub loop-rule-init : goal.loop-rule-init
loop-rule-init c = (0, search rules, search rules, λ k d within. absurd (omega (arith, within)))

pub loop-rule-preserved : goal.loop-rule-preserved
loop-rule-preserved c =
    let all = rows c.args.tables.now.policy c.args.table in
    let n = c.loop-rule.invariant.0 in
    let row = next_row all c.loop-rule.rule-iterator c.next.new.self n c.in-Some-rule.rule.now c.loop-rule.invariant.1 c.in-Some-rule.ensures.steps in (
      n + 1,
      row.behind,
      pushed_line _ c.in-Some.name.now all n c.in-Some-rule.rule.now _ _ _ c.in-Some.ensures row.within row.is c.loop-rule.invariant.2 c.in_ok-push_line.ensures.line,
      fields_more all n c.in-Some-rule.rule.now row.within row.is c.loop-rule.invariant.3 c.in_ok-push_line.ensures.fields,
    )

pub returns-clause-lines : goal.returns-clause-lines
returns-clause-lines c =
    let all = rows c.args.tables.now.policy c.args.table in
    let past = no_more_rows all c.loop-rule.rule-iterator c.loop-rule.invariant.0 c.loop-rule.invariant.1 c.in-None.ensures.steps.0 in
    c.loop-rule.invariant.2 ∙ ap (λ (l : List Fields). string_bytes c.args.text.now ++ with_ends (lines_named (name_of c.args.table) l)) (take_all c.loop-rule.invariant.0 all past)

pub returns-clause-fields : goal.returns-clause-fields
returns-clause-fields c =
    let all = rows c.args.tables.now.policy c.args.table in
    let past = no_more_rows all c.loop-rule.rule-iterator c.loop-rule.invariant.0 c.loop-rule.invariant.1 c.in-None.ensures.steps.0 in
    subst (λ (l : List Fields). All AreFields l) (take_all c.loop-rule.invariant.0 all past) c.loop-rule.invariant.3
