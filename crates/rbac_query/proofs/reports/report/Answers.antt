use Rattle.std.proofs.Common.{◌≡◌, ◌++◌, ◌∙◌, Err, List, Some, ap, map, rules, subst, sym, ℕ}
use Rattle.csv.specs.Writing.{default_writer, row_text}
use Rattle.perm_base.specs.RoleShapes.{shape_of}
use Rattle.perm_base.specs.declared.shapes.Shapes.{Shapes}
use Rattle.perm_base.specs.declared.shapes.TableId.TheVariants.{G}
use Rattle.policy_state.specs.States.{tables}
use Rattle.policy_table.specs.Tables.{Policy, rows}
use Rattle.rbac_query.specs.Helps.Stops.{IsStop}
use Rattle.rbac_query.specs.Helps.Subjects.{shown}
use Rattle.rbac_query.specs.Report.{IsReport, header}
use Rattle.rbac_query.proofs.ReportLemmas.{IsAskedBy, report_stop, stopped, stops_header, written}
use Rattle.rbac_query.proofs.reports.report.Goals as goal

pub returns-in_err-push_header-clause-stop : goal.returns-in_err-push_header-clause-stop
returns-in_err-push_header-clause-stop c =
    let shapes = c.args.state.now.shapes in
    let policy = tables c.args.state.now in
    let there : shape_of shapes.roles 1 ≡ Some c.in-Some.shape = ap (λ (s : Shapes). shape_of s.roles 1) (sym c.shapes.ensures.shapes) ∙ sym c.find.ensures ∙ c.in-Some.is in
    let report = c.relation_has_one_report.ensures.there shapes policy c.in-Some.shape there in
    let fault = c.in_err-push_header.field-0.0 in
    let stop : c.from_residual-in_err-push_header.result ≡ Err fault = search rules in
    rw stop
    (report_stop shapes policy report.0 c.args.most fault report.1
    (stops_header shapes policy c.in-Some.shape there report.0 c.args.most fault report.1
    (subst (λ (l : List ℕ). IsStop c.args.most (l ++ row_text default_writer header) fault) c.new-text.ensures.items c.in_err-push_header.ensures.stop)))

pub returns-in_err-push_entries-clause-stop : goal.returns-in_err-push_entries-clause-stop
returns-in_err-push_entries-clause-stop c =
    let shapes = c.args.state.now.shapes in
    let policy = tables c.args.state.now in
    let section = c.section.result.now in
    let there : shape_of shapes.roles 1 ≡ Some c.in-Some.shape = ap (λ (s : Shapes). shape_of s.roles 1) (sym c.shapes.ensures.shapes) ∙ sym c.find.ensures ∙ c.in-Some.is in
    let report = c.relation_has_one_report.ensures.there shapes policy c.in-Some.shape there in
    let fault = c.in_err-push_entries.field-0.0 in
    let by : IsAskedBy shapes section.shape section.limit = record { there = c.section.ensures.shape; limit_is = c.section.ensures.limit } in
    let rules_are : c.rows-rows.result ≡ rows policy (G 1) = c.rows-rows.ensures.value ∙ ap (λ (p : Policy). rows p (G 1)) c.tables.ensures.policy in
    let begun : c.push_header.new.text.items ≡ row_text default_writer header = c.in_ok-push_header.ensures.took ∙ ap (λ (l : List ℕ). l ++ row_text default_writer header) c.new-text.ensures.items in
    let stop : c.from_residual-in_err-push_entries.result ≡ Err fault = search rules in
    rw stop
    (report_stop shapes policy report.0 c.args.most fault report.1
    (stopped shapes policy section.shape section.limit by c.in-Some.shape c.rows-rows.result (map shown c.in_ok-subjects.subjects.keys) there rules_are c.in_ok-subjects.ensures
    report.0 c.push_header.new.text.items c.args.most fault report.1 begun (c.in_err-push_entries.ensures.stop (rows policy (G 1)) c.section.ensures.section)))

pub returns-clause-report : goal.returns-clause-report
returns-clause-report c =
    let shapes = c.args.state.now.shapes in
    let policy = tables c.args.state.now in
    let section = c.section.result.now in
    let there : shape_of shapes.roles 1 ≡ Some c.in-Some.shape = ap (λ (s : Shapes). shape_of s.roles 1) (sym c.shapes.ensures.shapes) ∙ sym c.find.ensures ∙ c.in-Some.is in
    let report = c.relation_has_one_report.ensures.there shapes policy c.in-Some.shape there in
    let by : IsAskedBy shapes section.shape section.limit = record { there = c.section.ensures.shape; limit_is = c.section.ensures.limit } in
    let rules_are : c.rows-rows.result ≡ rows policy (G 1) = c.rows-rows.ensures.value ∙ ap (λ (p : Policy). rows p (G 1)) c.tables.ensures.policy in
    let begun : c.push_header.new.text.items ≡ row_text default_writer header = c.in_ok-push_header.ensures.took ∙ ap (λ (l : List ℕ). l ++ row_text default_writer header) c.new-text.ensures.items in
    subst (IsReport shapes policy)
    (sym (written shapes policy section.shape section.limit by c.in-Some.shape c.rows-rows.result (map shown c.in_ok-subjects.subjects.keys) there rules_are c.in_ok-subjects.ensures
    report.0 c.push_header.new.text.items c.push_entries.new.text.items report.1 begun (c.in_ok-push_entries.ensures.took (rows policy (G 1)) c.section.ensures.section))) report.1
