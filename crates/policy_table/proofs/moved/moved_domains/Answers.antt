use Rattle.std.proofs.Common.{arith, take}
use Rattle.std.specs.List.{flat_map}
use Rattle.std.proofs.lemmas.List.{length-take}
use Rattle.policy_table.specs.Helps.Moves.{moved, moved_domains}
use Rattle.policy_table.proofs.CountedLemmas.{can_count}
use Rattle.policy_table.proofs.MovedLemmas.{moved_few, moved_more}
use Rattle.policy_table.proofs.moved.moved_domains.Goals as goal

pub add_moved-requires-clause-few : goal.add_moved-requires-clause-few
add_moved-requires-clause-few c =
    let front = take c.loop-change.change-index c.args.changes.now in
    can_count (flat_map (moved c.args.way c.args.table) front) c.loop-change.domains c.loop-change.invariant
    (omega (arith, moved_few c.args.way c.args.table front, length-take c.loop-change.change-index c.args.changes.now, c.loop-change-test.true))

pub loop-change-preserved : goal.loop-change-preserved
loop-change-preserved c =
    moved_more c.args.way c.args.table c.args.changes.now c.loop-change.change-index c.change-item.result _ c.loop-change-test.true c.change-item.is
    (c.in_ok-add_moved.ensures (moved_domains c.args.way c.args.table (take c.loop-change.change-index c.args.changes.now)) c.loop-change.invariant)
