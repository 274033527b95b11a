use Rattle.casbin_run.proofs.ShownLemmas.{wrote_model, wrote_policy}
use Rattle.casbin_run.proofs.laws.shown_files_are_read.Goals as goal

pub returns-clause-policy : goal.returns-clause-policy
returns-clause-policy c = λ g before now err err_now job ends asked is. wrote_policy g before now job ends.done asked is

pub returns-clause-model : goal.returns-clause-model
returns-clause-model c = λ g before now err err_now job ends asked is. wrote_model g before now job ends.done asked is
