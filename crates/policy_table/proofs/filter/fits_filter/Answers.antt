use Rattle.std.proofs.Common.{arith, sym, ◌∙◌}
use Rattle.policy_table.proofs.FilterLemmas.{fits_values-empty, fits_values-same, fits_values-other}
use Rattle.policy_table.proofs.filter.fits_filter.Goals as goal
use Rattle.policy_table.proofs.filter.fits_filter.Goals.{else-not-is_empty-via-then-not-is_empty+else-ne, else-not-is_empty-via-else-not-is_empty}

pub returns-then-ne : goal.returns-then-ne
returns-then-ne c =
    let a = c.args in
    sym (c.loop-place.invariant ∙ fits_values-other a.rule.now a.values.now a.at c.loop-place.place _ _ c.field-value.ensures.value c.field.ensures.value (cc) (cc))

pub loop-place-preserved : goal.loop-place-preserved
loop-place-preserved c =
    let a = c.args in
    let place = c.loop-place.place in
    let value = c.field-value.ensures.value in
    c.loop-place.invariant
    ∙ elim c.else-not-is_empty.branch [
      | else-not-is_empty-via-then-not-is_empty+else-ne w ↦ fits_values-same a.rule.now a.values.now a.at place _ _ value w.field.ensures.value (cc) (cc)
      | else-not-is_empty-via-else-not-is_empty w ↦ fits_values-empty a.rule.now a.values.now a.at place _ (omega arith) value (cc)
    ]
