use Rattle.std.proofs.Common.{◌+◌, ◌∙◌, List, map, rules, subst, sym}
use Rattle.std.proofs.lemmas.List.{take_all}
use Rattle.policy_table.proofs.CallerLemmas.{next_row, no_more_rows}
use Rattle.policy_table.specs.Tables.{Fields}
use Rattle.rbac_query.proofs.SubjectLemmas.{subjects_more, subjects_none, subjects_same}
use Rattle.rbac_query.specs.Helps.Subjects.{shown}
use Rattle.rbac_query.specs.Report.{AreSubjects}
use Rattle.rbac_query.proofs.subjects.subjects_of.Goals as goal

pub loop-row-init : goal.loop-row-init
loop-row-init c = (0, search rules, subjects_none c.args.shape c.args.rows c.new-subjects.result.keys c.new-subjects.ensures.empty)

pub loop-row-preserved : goal.loop-row-preserved
loop-row-preserved c =
    let shape = c.args.shape in
    let rows = c.args.rows in
    let at = c.loop-row.invariant.0 in
    let row = c.in-Some.row.now in
    let there = next_row rows c.loop-row.row-iterator c.next.new.self at row c.loop-row.invariant.1 c.in-Some.ensures.steps in
    let user = c.text_or_empty-user.result in
    let domain = c.text_or_empty-domain.result in (
      at + 1,
      there.behind,
      subjects_same shape rows at row there.within there.is c.loop-row.subjects.keys user domain c.text_or_empty-user.ensures c.text_or_empty-domain.ensures
          (sym c.is_plain.ensures ∙ c.if-is_plain.false) c.loop-row.invariant.2,
    )

pub loop-row-preserved-then-is_plain : goal.loop-row-preserved-then-is_plain
loop-row-preserved-then-is_plain c =
    let shape = c.args.shape in
    let rows = c.args.rows in
    let at = c.loop-row.invariant.0 in
    let row = c.in-Some.row.now in
    let there = next_row rows c.loop-row.row-iterator c.next.new.self at row c.loop-row.invariant.1 c.in-Some.ensures.steps in
    let user = c.text_or_empty-user.result in
    let domain = c.text_or_empty-domain.result in (
      at + 1,
      there.behind,
      subjects_more shape rows at row there.within there.is c.loop-row.subjects.keys c.insert.new.self.keys user domain c.text_or_empty-user.ensures c.text_or_empty-domain.ensures
          (sym c.is_plain.ensures ∙ c.if-is_plain.true) (search rules) c.loop-row.invariant.2,
    )

pub returns : goal.returns
returns c =
    let past = no_more_rows c.args.rows c.loop-row.row-iterator c.loop-row.invariant.0 c.loop-row.invariant.1 c.in-None.ensures.steps.0 in
    subst (λ (l : List Fields). AreSubjects c.args.shape l (map shown c.loop-row.subjects.keys)) (take_all c.loop-row.invariant.0 c.args.rows past) c.loop-row.invariant.2
