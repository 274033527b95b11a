use Rattle.run_status.proofs.CallerLemmas.{told_by_push}
use Rattle.run_status.proofs.stop_text.tell_stop.Goals as goal

pub returns-clause-told : goal.returns-clause-told
returns-clause-told g c = told_by_push _ _ _ _ _ _ c.push_stop.ensures
