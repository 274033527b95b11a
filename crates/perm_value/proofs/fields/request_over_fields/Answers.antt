use Rattle.std.proofs.Common.{◌≡◌, List, map, ap, sym, ◌∙◌, subst}
use Rattle.std.proofs.lemmas.Result.{err_from_is_err_and}
use Rattle.perm_value.specs.Datum.{Datum}
use Rattle.perm_value.specs.Fields.{AreTexts, fault_of}
use Rattle.perm_value.specs.Seen.{datum}
use Rattle.perm_value.proofs.FieldLemmas.{fault_found, fault_once, texts_found, texts_once}
use Rattle.perm_value.proofs.fields.request_over_fields.Goals as goal

pub returns-in_err-values-clause-only : goal.returns-in_err-values-clause-only
returns-in_err-values-clause-only c = λ values are.
    let stop = err_from_is_err_and c.from_residual.result c.from_residual.ensures.1 in
    rw (stop.1, stop.2) (ap fault_of (fault_once c.args.line.now c.in_err-values.field-0.0 values c.in_err-values.ensures.exact are))

pub returns-in_err-values-clause-fault : goal.returns-in_err-values-clause-fault
returns-in_err-values-clause-fault c =
    let stop = err_from_is_err_and c.from_residual.result c.from_residual.ensures.1 in
    rw (stop.1, stop.2) (fault_found c.args.line.now c.in_err-values.field-0.0 c.in_err-values.ensures.exact)

pub returns-clause-found : goal.returns-clause-found
returns-clause-found c =
    let seen : map datum c.in_ok-values.values.items ≡ map datum c.from_vec.result = ap (map datum) (sym c.from_vec.ensures) in
    subst (λ (values : List Datum). AreTexts c.args.line.now values) seen (texts_found c.args.line.now (map datum c.in_ok-values.values.items) c.in_ok-values.ensures.exact)

pub returns-clause-only : goal.returns-clause-only
returns-clause-only c = λ values are. ap (map datum) c.from_vec.ensures ∙ texts_once c.args.line.now (map datum c.in_ok-values.values.items) values c.in_ok-values.ensures.exact are
