use Rattle.std.proofs.Common.{ℕ, List, subst}
use Rattle.std.proofs.lemmas.List.{nil_from_length}
use Rattle.file_lint.specs.Helps.Rows.{FindsMore, row_line}
use Rattle.file_lint.specs.RowWarnings.{HeldFinds}
use Rattle.file_lint.proofs.RowLemmas.{found_first, found_none}
use Rattle.file_lint.proofs.rows.push_looked.Goals as goal

pub loop-look-init : goal.loop-look-init
loop-look-init c = λ now finds. finds

pub loop-look-preserved : goal.loop-look-preserved
loop-look-preserved c = λ now finds.
    let model = c.args.model.now in
    let line = row_line c.args.row.now in
    let look = c.in-Some.look.now in
    let held = subst (λ (text : List ℕ). FindsMore (HeldFinds model line look.at text look.held) c.loop-look.found.items c.push_held.new.found.items) c.field.ensures c.in_ok-push_held.ensures in
    c.loop-look.invariant now (found_first model line c.args.rule.now c.loop-look.rest.now c.in-Some.others.now look c.loop-look.found.items c.push_held.new.found.items now c.in-Some.ensures.cases.0 held finds)

pub returns : goal.returns
returns c =
    c.loop-look.invariant c.loop-look.found.items (found_none c.args.model.now (row_line c.args.row.now) c.args.rule.now c.loop-look.rest.now c.loop-look.found.items (nil_from_length c.loop-look.rest.now c.in_default.ensures.cases))
