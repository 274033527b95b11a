use Rattle.std.proofs.Common.{List, ℕ, Err, Ok, map, refl, subst}
use Rattle.std.specs.Prelude.{◌≢◌, true}
use Rattle.std.proofs.lemmas.Result.{err_from_is_err_and}
use Rattle.perm_value.specs.Seen.{datum}
use Rattle.perm_value.specs.declared.request.RequestFault.TheVariants as fault
use Rattle.script_read.specs.Reads.{Says}
use Rattle.enforce_core.proofs.AskLemmas.{line_stopped}
use Rattle.enforce_core.proofs.requests.request_of_json.Goals as goal

pub returns-in_default-clause-stopped : goal.returns-in_default-clause-stopped
returns-in_default-clause-stopped c = (refl, c.in_default.ensures.cases.0)

pub returns-in_err-request-clause-stopped : goal.returns-in_err-request-clause-stopped
returns-in_err-request-clause-stopped c =
    let p = err_from_is_err_and c.from_residual.result c.from_residual.ensures.1 in
    let why : c.in_err-request.field-0.0 ≢ fault.NoMemory → Says true c.args.line.now (Err c.in_err-request.field-0.0) = λ other. subst (λ (text : List ℕ). Says true text (Err c.in_err-request.field-0.0)) c.in-Ok.ensures.cases.0 (c.in_err-request.ensures.fault other) in
    rw (p.1, p.2) (line_stopped c.args.line.now c.in_err-request.field-0.0 why)

pub returns-clause-found : goal.returns-clause-found
returns-clause-found c = subst (λ (text : List ℕ). Says true text (Ok (map datum c.in_ok-request.request))) c.in-Ok.ensures.cases.0 c.in_ok-request.ensures.found
