use Rattle.std.proofs.Common.{[], ◌+◌, ◌++◌, Bool, List, get_or, rules, ap, ◌∙◌}
use Rattle.std.specs.Str.{bytes_eq}
use Rattle.std.proofs.lemmas.List.{take_all}
use Rattle.std.proofs.lemmas.Option.{get_or_from_slice_get}
use Rattle.policy_table.proofs.CallerLemmas.{next_row, no_more_rows}
use Rattle.policy_table.specs.Tables.{Fields}
use Rattle.policy_table.specs.declared.change.Change.TheVariants.{Remove}
use Rattle.edit_calls.specs.Edits.{removes, rows_with}
use Rattle.edit_calls.proofs.EditLemmas.{passed_next, passed_same}
use Rattle.edit_calls.proofs.changes.push_removes_with.Goals as goal

pub loop-row-init : goal.loop-row-init
loop-row-init c = (0, search rules, search rules)

pub loop-row-preserved : goal.loop-row-preserved
loop-row-preserved c =
    let i = c.loop-row.invariant.0 in
    let row = next_row c.args.rows c.loop-row.row-iterator c.next.new.self i c.in-Some.row.now c.loop-row.invariant.1 c.in-Some.ensures.steps in
    let field = get_or_from_slice_get c.in-Some.row.now c.args.column c.field.result.now [] c.field.ensures.value in
    let test = λ (rule : Fields). (let t : Bool = bytes_eq c.args.name.now (get_or rule c.args.column []) in t) in
    (i + 1, row.behind, passed_same _ i _ row.here test (Remove c.args.table) _ _ c.loop-row.invariant.2 _ (ap (bytes_eq c.args.name.now) field ∙ cc) (cc))

pub loop-row-preserved-in-Continue-branch-2 : goal.loop-row-preserved-in-Continue-branch-2
loop-row-preserved-in-Continue-branch-2 c =
    let i = c.loop-row.invariant.0 in
    let row = next_row c.args.rows c.loop-row.row-iterator c.next.new.self i c.in-Some.row.now c.loop-row.invariant.1 c.in-Some.ensures.steps in
    let field = get_or_from_slice_get c.in-Some.row.now c.args.column c.field.result.now [] c.field.ensures.value in
    let test = λ (rule : Fields). (let t : Bool = bytes_eq c.args.name.now (get_or rule c.args.column []) in t) in
    (i + 1, row.behind, passed_next _ i _ row.here test (Remove c.args.table) _ _ c.loop-row.invariant.2 _ (ap (bytes_eq c.args.name.now) field ∙ cc) (search rules))

pub returns : goal.returns
returns c =
    let past = no_more_rows c.args.rows c.loop-row.row-iterator c.loop-row.invariant.0 c.loop-row.invariant.1 c.in-None.ensures.steps.0 in
    c.loop-row.invariant.2 ∙ ap (λ (l : List Fields). c.args.changes.now.items ++ removes c.args.table (rows_with c.args.column c.args.name.now l)) (take_all c.loop-row.invariant.0 c.args.rows past)
