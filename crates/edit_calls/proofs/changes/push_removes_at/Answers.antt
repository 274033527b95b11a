use Rattle.std.proofs.Common.{[], ◌++◌, ◌<◌, Bool, List, ℕ, arith, get_or, length, refl, rules, sym, ap, ◌∙◌}
use Rattle.std.specs.Str.{bytes_eq}
use Rattle.std.proofs.lemmas.List.{length-map, take_all}
use Rattle.std.proofs.lemmas.Option.{get_or_from_slice_get}
use Rattle.policy_table.specs.Tables.{Fields, rows}
use Rattle.policy_table.specs.declared.change.Change.TheVariants.{Remove}
use Rattle.edit_calls.specs.Edits.{removes, rows_with}
use Rattle.edit_calls.specs.Found.{rules_at}
use Rattle.edit_calls.proofs.EditLemmas.{passed_next, passed_same}
use Rattle.edit_calls.proofs.KnownLemmas.{rule_has, rule_here}
use Rattle.edit_calls.proofs.changes.push_removes_at.Goals as goal
use Rattle.edit_calls.proofs.changes.push_removes_at.Goals.{else-eq, then-eq+in_ok-rule+in_ok-push}

pub row-row-requires : goal.row-row-requires
row-row-requires c = c.requires.within c.loop-place.place-index _ c.loop-place-test.true

pub field-requires : goal.field-requires
field-requires c = rule_has (λ (rule : Fields). c.args.column < length rule) (rows c.args.tables.now.policy c.args.table) _ c.row-row.result.now c.row-row.ensures c.requires.columns

pub loop-place-preserved : goal.loop-place-preserved
loop-place-preserved c =
    let all = rows c.args.tables.now.policy c.args.table in
    let here = rule_here all c.args.places.now c.loop-place.place-index _ c.row-row.result.now c.loop-place-test.true c.row-row.ensures in
    let field = get_or_from_slice_get c.row-row.result.now c.args.column c.field.result.now [] c.field.ensures.value in
    let test = λ (rule : Fields). (let t : Bool = bytes_eq c.args.name.now (get_or rule c.args.column []) in t) in
    elim c.if-eq.branch [
      | then-eq+in_ok-rule+in_ok-push w ↦ rw w.changes-is (
          passed_next _ c.loop-place.place-index _ here test (Remove c.args.table) c.args.changes.now.items c.loop-place.changes.items c.loop-place.invariant w.push.new.self.items
          (ap (bytes_eq c.args.name.now) field ∙ sym c.eq.ensures ∙ w.if-eq.true) (search rules)
          )
      | else-eq w ↦ rw w.changes-is (
          passed_same _ c.loop-place.place-index _ here test (Remove c.args.table) c.args.changes.now.items c.loop-place.changes.items c.loop-place.invariant c.loop-place.changes.items
          (ap (bytes_eq c.args.name.now) field ∙ sym c.eq.ensures ∙ w.if-eq.false) refl
          )
    ]

pub returns : goal.returns
returns c =
    let all = rows c.args.tables.now.policy c.args.table in
    c.loop-place.invariant
    ∙ ap (λ (l : List Fields). c.args.changes.now.items ++ removes c.args.table (rows_with c.args.column c.args.name.now l))
    (take_all c.loop-place.place-index (rules_at all c.args.places.now) (omega (arith, c.loop-place-test.false, length-map c.args.places.now (λ (place : ℕ). get_or all place []))))
