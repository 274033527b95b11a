use Rattle.std.proofs.Common.{◌+◌, ◌≤◌, Bool, filter, length, not}
use Rattle.policy_table.specs.Filters.{fits_filter}
use Rattle.policy_table.specs.Tables.{Fields, rows, stands}
use Rattle.edit_calls.proofs.EditLemmas.{absent_there, any_here, any_next, fails_there, met_by_one, passes_there}
use Rattle.edit_calls.proofs.named.one_stays.Goals.{else-has-via-then-has+else-not-fits_filter, else-has-via-else-has}
use Rattle.edit_calls.proofs.named.one_stays.Goals as goal

pub fits_filter-requires : goal.fits_filter-requires
fits_filter-requires c =
    let a = c.args in
    met_by_one (λ (rule : Fields). a.at + length a.values.now ≤ length rule) _ (rows a.tables.now.policy a.table) c.requires (cc)

pub returns-then-not-fits_filter : goal.returns-then-not-fits_filter
returns-then-not-fits_filter c =
    let a = c.args in
    let test = λ (rule : Fields). (let t : Bool = not (fits_filter rule a.at a.values.now) in t) in
    let all = rows a.tables.now.policy a.table in
    any_here _ c.loop-place.place _ c.at-rule.ensures (λ (rule : Fields). stands rule (filter test all)) c.loop-place.invariant (passes_there test _ all (cc) (cc))

pub loop-place-preserved : goal.loop-place-preserved
loop-place-preserved c =
    let a = c.args in
    let test = λ (rule : Fields). (let t : Bool = not (fits_filter rule a.at a.values.now) in t) in
    let all = rows a.tables.now.policy a.table in
    any_next _ c.loop-place.place _ c.at-rule.ensures (λ (rule : Fields). stands rule (filter test all)) c.loop-place.invariant (elim c.else-has.branch [
      | else-has-via-then-has+else-not-fits_filter w ↦ fails_there test _ all (cc)
      | else-has-via-else-has w ↦ absent_there test _ all (cc)
    ])
