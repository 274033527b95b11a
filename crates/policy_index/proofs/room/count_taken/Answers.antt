use Rattle.std.proofs.Common.{ap, arith, sym}
use Rattle.policy_index.specs.Indexed.{slots_taken}
use Rattle.policy_index.proofs.ReserveLemmas.{taken_edit}
use Rattle.policy_index.proofs.room.count_taken.Goals as goal

pub loop-edit-preserved : goal.loop-edit-preserved
loop-edit-preserved c = omega (arith, c.in_ok-count.ensures, c.loop-edit.invariant, ap slots_taken c.as_slice.ensures, taken_edit c.args.edits.now c.loop-edit.edit-index c.edit-item.result c.loop-edit-test.true (sym c.edit-item.is))
