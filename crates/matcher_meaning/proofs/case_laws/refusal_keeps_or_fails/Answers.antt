use Rattle.matcher_meaning.proofs.CaseRefusalLemmas.{comes_keeps}
use Rattle.matcher_meaning.proofs.VerdictRefusalLemmas.{is_verdict_keeps, truth_keeps}
use Rattle.matcher_meaning.proofs.case_laws.refusal_keeps_or_fails.Goals as goal

pub returns-clause-value : goal.returns-clause-value
returns-clause-value c case e at pattern r p = comes_keeps case at pattern e r p

pub returns-clause-truth : goal.returns-clause-truth
returns-clause-truth c case e at pattern r p = truth_keeps case at pattern e r p

pub returns-clause-verdict : goal.returns-clause-verdict
returns-clause-verdict c model shapes policy request refusal v p = is_verdict_keeps model shapes policy request refusal v p
