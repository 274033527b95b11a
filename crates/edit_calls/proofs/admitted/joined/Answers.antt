use Rattle.std.proofs.Common.{arith, refl, rules}
use Rattle.std.proofs.lemmas.Option.{slice_get_read}
use Rattle.edit_calls.proofs.AdmitLemmas.{flat_next}
use Rattle.edit_calls.proofs.admitted.joined.Goals as goal

pub loop-edit-preserved : goal.loop-edit-preserved
loop-edit-preserved c =
    let i = c.loop-edit.edit-index in
    let here = slice_get_read c.args.edits.now _ i c.edit-item.result refl (omega arith) c.edit-item.is in
    flat_next c.args.edits.now i _ here c.loop-edit.changes.items _ c.loop-edit.invariant (search rules)
