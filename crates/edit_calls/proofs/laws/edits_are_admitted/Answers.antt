use Rattle.edit_calls.proofs.AdmitLemmas.{edit_is_admitted}
use Rattle.edit_calls.proofs.laws.edits_are_admitted.Goals as goal

pub returns : goal.returns
returns c = edit_is_admitted
