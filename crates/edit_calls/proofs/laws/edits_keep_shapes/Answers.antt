use Rattle.edit_calls.proofs.ShapeLemmas.{edit_keeps_shapes}
use Rattle.edit_calls.proofs.laws.edits_keep_shapes.Goals as goal

pub returns : goal.returns
returns c = edit_keeps_shapes
