use Rattle.casbin_run.proofs.CompleteLemmas.{HasOneEnd, complete, exact, text_is}
use Rattle.casbin_run.proofs.laws.runs_end_as_given.Goals as goal

pub returns-clause-exact : goal.returns-clause-exact
returns-clause-exact c =
    let law : HasOneEnd = record { one_cause = c.one_end.ensures.one_cause; no_cause = c.one_end.ensures.no_cause; one_text = c.one_end.ensures.one_text } in
    λ g before now err err_now status stop files input. exact law g files input before now err err_now status stop

pub returns-clause-complete : goal.returns-clause-complete
returns-clause-complete c =
    let law : HasOneEnd = record { one_cause = c.one_end.ensures.one_cause; no_cause = c.one_end.ensures.no_cause; one_text = c.one_end.ensures.one_text } in
    λ g before now err err_now status files input. complete law g files input before now err err_now status

pub returns-clause-text : goal.returns-clause-text
returns-clause-text c =
    let law : HasOneEnd = record { one_cause = c.one_end.ensures.one_cause; no_cause = c.one_end.ensures.no_cause; one_text = c.one_end.ensures.one_text } in
    λ g before now err err_now text files input. text_is law g files input before now err err_now text
