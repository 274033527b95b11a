use Rattle.casbin_run.proofs.AskedLemmas.{unread_before}
use Rattle.casbin_run.proofs.laws.input_is_read_last.Goals as goal

pub returns : goal.returns
returns c = λ g before now err err_now status ends of. unread_before g before now err err_now status ends of
