use Rattle.std.proofs.Common.{◌<◌, ◌≤◌, arith, length, ◌∙◌}
use Rattle.std.proofs.lemmas.Result.{err_from_is_err_and}
use Rattle.serde_json.specs.Read.{read}
use Rattle.perm_value.specs.Json.{most_values}
use Rattle.perm_value.proofs.FaultLemmas.{array_read, many_members, few_members}
use Rattle.perm_value.proofs.json.request_of_json.Goals as goal

pub returns-then-len-gt-MOST_VALUES-clause-fault : goal.returns-then-len-gt-MOST_VALUES-clause-fault
returns-then-len-gt-MOST_VALUES-clause-fault c other =
    let many : most_values < length c.in-Array.items.items = omega arith in
    array_read (read c.args.line.now) c.in_ok-json.json c.in-Array.items c.in_ok-json.ensures.found c.in-Array.is ∙ many_members c.in-Array.items.items many

pub returns-in_err-member_values-clause-fault : goal.returns-in_err-member_values-clause-fault
returns-in_err-member_values-clause-fault c =
    let few : length c.in-Array.items.items ≤ most_values = omega arith in
    let stop = err_from_is_err_and c.from_residual-in_err-member_values.result c.from_residual-in_err-member_values.ensures.1 in
    rw (stop.1, stop.2) (λ other.
    array_read (read c.args.line.now) c.in_ok-json.json c.in-Array.items c.in_ok-json.ensures.found c.in-Array.is
    ∙ few_members c.in-Array.items.items few ∙ c.in_err-member_values.ensures.fault other)

pub returns-clause-found : goal.returns-clause-found
returns-clause-found c =
    let few : length c.in-Array.items.items ≤ most_values = omega arith in
    rw c.from_vec.ensures
    (array_read (read c.args.line.now) c.in_ok-json.json c.in-Array.items c.in_ok-json.ensures.found c.in-Array.is
    ∙ few_members c.in-Array.items.items few ∙ c.in_ok-member_values.ensures.found)
