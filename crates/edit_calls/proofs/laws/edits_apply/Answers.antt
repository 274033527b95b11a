use Rattle.edit_calls.proofs.ApplyLemmas.{edit_applies}
use Rattle.edit_calls.proofs.laws.edits_apply.Goals as goal

pub returns : goal.returns
returns c = edit_applies
