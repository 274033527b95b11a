use Rattle.run_status.proofs.CallerLemmas.{told_by_push}
use Rattle.run_status.proofs.stop_text.tell_hits.Goals as goal

pub returns : goal.returns
returns g c = told_by_push _ _ _ _ _ _ c.push_hits.ensures
