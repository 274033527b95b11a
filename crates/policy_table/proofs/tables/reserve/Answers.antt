use Rattle.std.proofs.Common.{arith, ◌≤◌, subst}
use Rattle.policy_table.proofs.RoomLemmas.{counting_at, more_room, no_room_yet, room_at, slots_at, unchanged_at}
use Rattle.policy_table.proofs.tables.reserve.Goals as goal

pub loop-at-init : goal.loop-at-init
loop-at-init c = no_room_yet c.args.tables.now c.args.prepared.now c.told-tables

pub returns-in_err-reserve-clause-unchanged : goal.returns-in_err-reserve-clause-unchanged
returns-in_err-reserve-clause-unchanged c =
    unchanged_at c.args.tables.now c.args.prepared.now c.loop-at.at c.loop-at.tables c.reserve.new.self c.index-tables-at.result c.loop-at.invariant c.loop-at-test.true c.in_err-reserve.ensures.rules

pub returns-in_err-reserve-clause-slots : goal.returns-in_err-reserve-clause-slots
returns-in_err-reserve-clause-slots c =
    slots_at c.args.tables.now c.args.prepared.now c.loop-at.at c.loop-at.tables c.reserve.new.self c.index-tables-at.result c.loop-at.invariant c.loop-at-test.true c.in_err-reserve.ensures.slots

pub returns-in_err-reserve-clause-more : goal.returns-in_err-reserve-clause-more
returns-in_err-reserve-clause-more c =
    room_at c.args.tables.now c.args.prepared.now c.loop-at.at c.loop-at.tables c.reserve.new.self c.index-tables-at.result c.loop-at.invariant c.loop-at-test.true c.in_err-reserve.ensures.more

pub returns-in_err-reserve-clause-counted : goal.returns-in_err-reserve-clause-counted
returns-in_err-reserve-clause-counted c =
    counting_at c.args.tables.now c.args.prepared.now c.loop-at.at c.loop-at.tables c.reserve.new.self c.index-tables-at.result c.loop-at.invariant c.loop-at-test.true c.in_err-reserve.ensures.counted

pub loop-at-preserved : goal.loop-at-preserved
loop-at-preserved c =
    more_room c.args.tables.now c.args.prepared.now c.loop-at.at c.loop-at.tables c.reserve.new.self c.index-tables-at.result c.loop-at.invariant c.loop-at-test.true c.in_ok-reserve.ensures.rules c.in_ok-reserve.ensures.slots c.in_ok-reserve.ensures.counted (subst (λ n. n ≤ c.reserve.new.self.spare) c.needed.ensures c.in_ok-reserve.ensures.room) c.in_ok-reserve.ensures.more

pub returns-clause-unchanged : goal.returns-clause-unchanged
returns-clause-unchanged c = c.loop-at.invariant.unchanged

pub returns-clause-slots : goal.returns-clause-slots
returns-clause-slots c = c.loop-at.invariant.slots

pub returns-clause-counted : goal.returns-clause-counted
returns-clause-counted c = c.loop-at.invariant.counting

pub returns-clause-room : goal.returns-clause-room
returns-clause-room c = λ at few. c.loop-at.invariant.room at (omega (arith, c.loop-at-test.false))
