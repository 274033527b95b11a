use Rattle.std.proofs.Common.{arith, refl, rules, subst, sym}
use Rattle.std.proofs.lemmas.Result.{err_from_is_err_and}
use Rattle.decision.specs.Programs.{Suits}
use Rattle.desk_session.proofs.CallerLemmas.{stands_before}
use Rattle.perm_base.specs.declared.shapes.Shapes.{Shapes}
use Rattle.policy_state.specs.States.{tables}
use Rattle.script_read.specs.ItemLines.{IsBuiltAs, IsTakenOff, said}
use Rattle.script_read.specs.Script.{IsScript}
use Rattle.loaded_work.proofs.ItemLemmas.{all_done, served_all, served_early, served_first, served_memory, served_next, served_none, served_on, served_used, served_write, unserved_used}
use Rattle.loaded_work.proofs.session.print_items.Goals as goal

pub loop-values-init : goal.loop-values-init
loop-values-init g c = record {
  served = λ items is.
      served_first c.args.program.now c.args.desk.now.state.shapes (tables c.args.desk.now.state) items (said c.item_lines-left.result) c.args.desk.now 0 _ _ (c.item_lines-left.ensures items (record { reader = is.reader; says = is.says }))
      (served_none c.args.program.now c.args.desk.now.state.shapes (tables c.args.desk.now.state) c.args.desk.now _ _ (stands_before c.args.desk.now c.holds.ensures.desk c.requires.opening c.requires.none_pending c.requires.keeps_all) refl c.new-text.ensures.bytes refl refl refl);
}

pub item_lines-left-requires-clause-checked : goal.item_lines-left-requires-clause-checked
item_lines-left-requires-clause-checked g c = let is = c.requires.checked.1 in (c.requires.checked.0, record { reader = is.reader; says = is.says })

-- memory ran out before an item was read
pub returns-in_err-built-clause-stopped : goal.returns-in_err-built-clause-stopped
returns-in_err-built-clause-stopped g c =
    let p = err_from_is_err_and c.from_residual.result c.from_residual.ensures.1 in
    let so = c.loop-values.invariant.served c.requires.checked.0 c.requires.checked.1 in
    rw (p.1, p.2) (served_early c.args.program.now _ _ c.case_verdict_is_there.ensures (IsScript c.args.json c.args.script.now) so.done (said c.loop-values.left) c.requires.checked.0 c.requires.checked.1 _ _ _ _ so.parts so.served _)

pub returns-in_err-built-clause-counted : goal.returns-in_err-built-clause-counted
returns-in_err-built-clause-counted g c = (c.loop-values.invariant.served c.requires.checked.0 c.requires.checked.1).served.told.counted

pub returns-in_err-built-clause-used : goal.returns-in_err-built-clause-used
returns-in_err-built-clause-used g c = served_used c.args.program.now _ _ _ _ _ _ _ (c.loop-values.invariant.served c.requires.checked.0 c.requires.checked.1).served

-- at an item
pub push_item-requires-clause-suits : goal.push_item-requires-clause-suits
push_item-requires-clause-suits g c = λ lifetimes outlive.
    let so = c.loop-values.invariant.served c.requires.checked.0 c.requires.checked.1 in
    subst (λ (s : Shapes). Suits c.args.program.now s) (sym so.served.under.shapes_are) c.requires.suits

pub push_item-requires-clause-stands : goal.push_item-requires-clause-stands
push_item-requires-clause-stands g c = λ lifetimes outlive.
    let so = c.loop-values.invariant.served c.requires.checked.0 c.requires.checked.1 in
    (tables c.args.desk.now.state, so.done, so.served.under.behind)

pub push_item-requires-clause-kind : goal.push_item-requires-clause-kind
push_item-requires-clause-kind g c = λ lifetimes outlive.
    let first : IsTakenOff (IsBuiltAs c.in-Some.built) (said c.loop-values.left) (said c.next_built.new.self) = rw c.in-Some.is at c.in_ok-built.ensures.some in
    (first.item, first.holds)

pub returns-in_err-push_item-clause-stopped : goal.returns-in_err-push_item-clause-stopped
returns-in_err-push_item-clause-stopped g c =
    let p = err_from_is_err_and c.from_residual-in_err-push_item.result c.from_residual-in_err-push_item.ensures.1 in
    let so = c.loop-values.invariant.served c.requires.checked.0 c.requires.checked.1 in
    let first : IsTakenOff (IsBuiltAs c.in-Some.built) (said c.loop-values.left) (said c.next_built.new.self) = rw c.in-Some.is at c.in_ok-built.ensures.some in
    rw (p.1, p.2) (served_memory c.args.program.now _ _ c.case_verdict_is_there.ensures (IsScript c.args.json c.args.script.now) so.done (said c.loop-values.left) c.requires.checked.0 c.requires.checked.1 _ _ _ _ so.parts so.served first.item (said c.next_built.new.self) _ _ first.parts (c.in_err-push_item.ensures.refused first.item first.holds))

pub returns-in_err-push_item-clause-counted : goal.returns-in_err-push_item-clause-counted
returns-in_err-push_item-clause-counted g c = (c.loop-values.invariant.served c.requires.checked.0 c.requires.checked.1).served.told.counted

pub returns-in_err-push_item-clause-used : goal.returns-in_err-push_item-clause-used
returns-in_err-push_item-clause-used g c =
    let first : IsTakenOff (IsBuiltAs c.in-Some.built) (said c.loop-values.left) (said c.next_built.new.self) = rw c.in-Some.is at c.in_ok-built.ensures.some in
    unserved_used c.args.program.now _ _ _ first.item _ _ _ _ _ (c.loop-values.invariant.served c.requires.checked.0 c.requires.checked.1).served (c.in_err-push_item.ensures.refused first.item first.holds)

-- behind it
pub returns-in_err-push_full-clause-stopped : goal.returns-in_err-push_full-clause-stopped
returns-in_err-push_full-clause-stopped g c =
    let p = err_from_is_err_and c.from_residual-in_err-push_full.result c.from_residual-in_err-push_full.ensures.1 in
    let first : IsTakenOff (IsBuiltAs c.in-Some.built) (said c.loop-values.left) (said c.next_built.new.self) = rw c.in-Some.is at c.in_ok-built.ensures.some in
    let next = served_next c.args.program.now _ _ c.requires.checked.0 (said c.loop-values.left) (said c.next_built.new.self) first.item _ _ _ _ _ _ _ _ (c.loop-values.invariant.served c.requires.checked.0 c.requires.checked.1) first.parts c.next_number-number.ensures
    (c.in_ok-push_item.ensures.pushed first.item first.holds) c.push_item.ensures.shapes in
    rw (p.1, p.2) (served_write c.args.program.now _ _ c.case_verdict_is_there.ensures (IsScript c.args.json c.args.script.now) next.done (said c.next_built.new.self) c.requires.checked.0 c.requires.checked.1 _ _ _ _ next.parts next.served _ _ c.in_err-push_full.ensures.stopped c.in_err-push_full.ensures.failed)

pub returns-in_err-push_full-clause-counted : goal.returns-in_err-push_full-clause-counted
returns-in_err-push_full-clause-counted g c = omega (arith, (c.loop-values.invariant.served c.requires.checked.0 c.requires.checked.1).served.told.counted, c.push_full.ensures.counted)

pub returns-in_err-push_full-clause-used : goal.returns-in_err-push_full-clause-used
returns-in_err-push_full-clause-used g c =
    let first : IsTakenOff (IsBuiltAs c.in-Some.built) (said c.loop-values.left) (said c.next_built.new.self) = rw c.in-Some.is at c.in_ok-built.ensures.some in
    unserved_used c.args.program.now _ _ _ first.item _ _ _ _ _ (c.loop-values.invariant.served c.requires.checked.0 c.requires.checked.1).served (c.in_ok-push_item.ensures.pushed first.item first.holds).step.asked

pub loop-values-preserved : goal.loop-values-preserved
loop-values-preserved g c =
    let first : IsTakenOff (IsBuiltAs c.in-Some.built) (said c.loop-values.left) (said c.next_built.new.self) = rw c.in-Some.is at c.in_ok-built.ensures.some in
    record {
      served = λ items is.
          let next = served_next c.args.program.now _ _ items (said c.loop-values.left) (said c.next_built.new.self) first.item _ _ _ _ _ _ _ _ (c.loop-values.invariant.served items is) first.parts c.next_number-number.ensures
          (c.in_ok-push_item.ensures.pushed first.item first.holds) c.push_item.ensures.shapes in
          served_on c.args.program.now _ _ items _ _ _ _ _ _ _ _ next c.in_ok-push_full.ensures.moved c.push_full.ensures.counted;
    }

-- behind all items
pub returns-in_err-push_all-clause-stopped : goal.returns-in_err-push_all-clause-stopped
returns-in_err-push_all-clause-stopped g c =
    let p = err_from_is_err_and c.from_residual-in_err-push_all.result c.from_residual-in_err-push_all.ensures.1 in
    let so = c.loop-values.invariant.served c.requires.checked.0 c.requires.checked.1 in
    rw (p.1, p.2) (served_write c.args.program.now _ _ c.case_verdict_is_there.ensures (IsScript c.args.json c.args.script.now) so.done (said c.loop-values.left) c.requires.checked.0 c.requires.checked.1 _ _ _ _ so.parts so.served _ _ (rw c.as_bytes.ensures.value at c.in_err-push_all.ensures.stopped) c.in_err-push_all.ensures.failed)

pub returns-in_err-push_all-clause-counted : goal.returns-in_err-push_all-clause-counted
returns-in_err-push_all-clause-counted g c = omega (arith, (c.loop-values.invariant.served c.requires.checked.0 c.requires.checked.1).served.told.counted, c.push_all.ensures.counted)

pub returns-in_err-push_all-clause-used : goal.returns-in_err-push_all-clause-used
returns-in_err-push_all-clause-used g c = served_used c.args.program.now _ _ _ _ _ _ _ (c.loop-values.invariant.served c.requires.checked.0 c.requires.checked.1).served

pub returns-clause-printed : goal.returns-clause-printed
returns-clause-printed g c =
    let so = c.loop-values.invariant.served c.requires.checked.0 c.requires.checked.1 in
    let none = (rw c.in_default.is at c.in_ok-built.ensures.none).0 in
    served_all c.args.program.now _ _ (IsScript c.args.json c.args.script.now) so.done c.requires.checked.0 c.requires.checked.1 _ _ _ _ _ (all_done so.done (said c.loop-values.left) c.requires.checked.0 so.parts none) so.served (rw c.as_bytes.ensures.value at c.in_ok-push_all.ensures.took)

pub returns-clause-counted : goal.returns-clause-counted
returns-clause-counted g c = omega (arith, (c.loop-values.invariant.served c.requires.checked.0 c.requires.checked.1).served.told.counted, c.push_all.ensures.counted)

pub returns-clause-used : goal.returns-clause-used
returns-clause-used g c = served_used c.args.program.now _ _ _ _ _ _ _ (c.loop-values.invariant.served c.requires.checked.0 c.requires.checked.1).served
