use Rattle.edit_calls.proofs.ShapeLemmas.{edit_keeps_sound}
use Rattle.edit_calls.proofs.laws.edits_keep_sound.Goals as goal

pub returns : goal.returns
returns c = edit_keeps_sound
