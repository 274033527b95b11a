use Rattle.std.proofs.Common.{[], ◌+◌, ◌≤◌, Bool, List, ℕ, arith, get_or, length, refl, rules, sym, ap, ◌∙◌}
use Rattle.std.proofs.lemmas.List.{length-map, take_all}
use Rattle.policy_table.specs.Filters.{fits_filter}
use Rattle.policy_table.specs.Tables.{Fields, rows}
use Rattle.policy_table.specs.declared.change.Change.TheVariants.{Remove}
use Rattle.edit_calls.specs.Edits.{fitting, removes}
use Rattle.edit_calls.specs.Found.{rules_at}
use Rattle.edit_calls.proofs.EditLemmas.{passed_next, passed_same}
use Rattle.edit_calls.proofs.KnownLemmas.{rule_has, rule_here}
use Rattle.edit_calls.proofs.changes.removes_fitting_at.Goals as goal
use Rattle.edit_calls.proofs.changes.removes_fitting_at.Goals.{else-fits_filter, then-fits_filter+in_ok-rule+in_ok-push}

pub row-row-requires : goal.row-row-requires
row-row-requires c = c.requires.within c.loop-place.place-index _ c.loop-place-test.true

pub fits_filter-requires : goal.fits_filter-requires
fits_filter-requires c = rule_has (λ (rule : Fields). c.args.at + length c.args.values.now ≤ length rule) (rows c.args.tables.now.policy c.args.table) _ c.row-row.result.now c.row-row.ensures c.requires.columns

pub loop-place-preserved : goal.loop-place-preserved
loop-place-preserved c =
    let all = rows c.args.tables.now.policy c.args.table in
    let here = rule_here all c.args.places.now c.loop-place.place-index _ c.row-row.result.now c.loop-place-test.true c.row-row.ensures in
    let test = λ (rule : Fields). (let t : Bool = fits_filter rule c.args.at c.args.values.now in t) in
    elim c.if-fits_filter.branch [
      | then-fits_filter+in_ok-rule+in_ok-push w ↦ rw w.changes-is (
          passed_next _ c.loop-place.place-index _ here test (Remove c.args.table) [] c.loop-place.changes.items c.loop-place.invariant w.push.new.self.items (sym c.fits_filter.ensures ∙ w.if-fits_filter.true) (search rules)
          )
      | else-fits_filter w ↦ rw w.changes-is (
          passed_same _ c.loop-place.place-index _ here test (Remove c.args.table) [] c.loop-place.changes.items c.loop-place.invariant c.loop-place.changes.items (sym c.fits_filter.ensures ∙ w.if-fits_filter.false) refl
          )
    ]

pub returns : goal.returns
returns c =
    let all = rows c.args.tables.now.policy c.args.table in
    c.loop-place.invariant
    ∙ ap (λ (l : List Fields). removes c.args.table (fitting c.args.at c.args.values.now l)) (take_all c.loop-place.place-index (rules_at all c.args.places.now) (omega (arith, c.loop-place-test.false, length-map c.args.places.now (λ (place : ℕ). get_or all place []))))
