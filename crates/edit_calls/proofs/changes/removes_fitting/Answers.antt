use Rattle.std.proofs.Common.{[], ◌+◌, Bool, List, rules, ap, ◌∙◌}
use Rattle.std.proofs.lemmas.List.{take_all}
use Rattle.policy_table.proofs.CallerLemmas.{next_row, no_more_rows}
use Rattle.policy_table.specs.Filters.{fits_filter}
use Rattle.policy_table.specs.Tables.{Fields}
use Rattle.policy_table.specs.declared.change.Change.TheVariants.{Remove}
use Rattle.edit_calls.specs.Edits.{fitting, removes}
use Rattle.edit_calls.proofs.EditLemmas.{passed_next, passed_same}
use Rattle.edit_calls.proofs.changes.removes_fitting.Goals as goal

pub loop-row-init : goal.loop-row-init
loop-row-init c = (0, search rules, search rules)

-- as in `push_removes_with`, behind no changes
pub loop-row-preserved : goal.loop-row-preserved
loop-row-preserved c =
    let i = c.loop-row.invariant.0 in
    let row = next_row c.args.rows c.loop-row.row-iterator c.next.new.self i c.in-Some.row.now c.loop-row.invariant.1 c.in-Some.ensures.steps in
    let test = λ (rule : Fields). (let t : Bool = fits_filter rule c.args.at c.args.values.now in t) in
    (i + 1, row.behind, passed_same _ i _ row.here test (Remove c.args.table) [] _ c.loop-row.invariant.2 _ (cc) (cc))

pub loop-row-preserved-in-Continue-branch-2 : goal.loop-row-preserved-in-Continue-branch-2
loop-row-preserved-in-Continue-branch-2 c =
    let i = c.loop-row.invariant.0 in
    let row = next_row c.args.rows c.loop-row.row-iterator c.next.new.self i c.in-Some.row.now c.loop-row.invariant.1 c.in-Some.ensures.steps in
    let test = λ (rule : Fields). (let t : Bool = fits_filter rule c.args.at c.args.values.now in t) in
    (i + 1, row.behind, passed_next _ i _ row.here test (Remove c.args.table) [] _ c.loop-row.invariant.2 _ (cc) (search rules))

pub returns : goal.returns
returns c =
    let past = no_more_rows c.args.rows c.loop-row.row-iterator c.loop-row.invariant.0 c.loop-row.invariant.1 c.in-None.ensures.steps.0 in
    c.loop-row.invariant.2 ∙ ap (λ (l : List Fields). removes c.args.table (fitting c.args.at c.args.values.now l)) (take_all c.loop-row.invariant.0 c.args.rows past)
