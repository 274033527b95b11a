use Rattle.std.proofs.Common.{◌≡◌, ◌+◌, [], ◌∷◌, ◌++◌, Ok, Err, rules, arith, get_or, map, refl, sym, ap, ◌∙◌, subst}
use Rattle.std.proofs.lemmas.List.{length_push, map_push}
use Rattle.std.proofs.lemmas.Grind.{common_steps}
use Rattle.std.proofs.lemmas.Result.{err_from_is_err_and}
use Rattle.serde_json.specs.View.{view, items_view}
use Rattle.perm_value.specs.Json.{member_value, values_from}
use Rattle.perm_value.specs.Seen.{datum}
use Rattle.perm_value.proofs.FaultLemmas.{one_more, first_fault}
use Rattle.perm_value.proofs.json.member_values.Goals as goal

pub returns-in_err-value-clause-fault : goal.returns-in_err-value-clause-fault
returns-in_err-value-clause-fault c =
    let found = c.deref-item-items.result.now in
    let stop = err_from_is_err_and c.from_residual.result c.from_residual.ensures.1 in
    rw (stop.1, stop.2) (λ other.
    subst (λ js. values_from 1 (items_view js) ≡ Err c.in_err-value.field-0.0) c.deref-item-items.ensures.value
    (first_fault found c.loop-at.at c.item-item.result _ _ c.loop-at-test.true c.loop-at.invariant.0
    (ap (λ j. member_value (c.loop-at.at + 1) (view j)) (sym c.item-item.is) ∙ c.in_err-value.ensures.fault other)))

pub loop-at-preserved : goal.loop-at-preserved
loop-at-preserved c =
    let found = c.deref-item-items.result.now in
    let here : member_value (c.loop-at.at + 1) (view (get_or found c.loop-at.at c.item-item.result)) ≡ Ok (datum c.in_ok-value.value) =
    ap (λ j. member_value (c.loop-at.at + 1) (view j)) (sym c.item-item.is) ∙ c.in_ok-value.ensures.found in
    let pushed : c.push.new.self.items ≡ c.loop-at.values.items ++ c.in_ok-value.value ∷ [] = first_of (search rules, grind (arith, common_steps)) in (
      rw (pushed, map_push datum c.loop-at.values.items c.in_ok-value.value)
          (one_more found c.loop-at.at c.item-item.result (map datum c.loop-at.values.items) (datum c.in_ok-value.value) c.loop-at-test.true c.loop-at.invariant.0 here),
      rw (pushed, length_push c.loop-at.values.items c.in_ok-value.value, c.loop-at.invariant.1) refl,
    )
