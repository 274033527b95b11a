use Rattle.std.proofs.Common.{◌<◌, List, length, take_all, subst, ◌∙◌, arith}
use Rattle.dist_rows.proofs.SquareLemmas.{more_room, room_next, same_cells}
use Rattle.dist_rows.specs.Helps.Rows.{AreRows, RowSeen}
use Rattle.dist_rows.proofs.room.reserve_all.Goals as goal

pub returns-in_err-reserve-clause-cells : goal.returns-in_err-reserve-clause-cells
returns-in_err-reserve-clause-cells c =
    let within : c.loop-row.row-index < length c.loop-row.rows = omega arith in
    same_cells c.loop-row.rows c.loop-row.row-index c.reserve.new.self c.row-item.result within c.reserve.ensures.cells ∙ c.loop-row.invariant.cells

pub returns-in_err-reserve-clause-more : goal.returns-in_err-reserve-clause-more
returns-in_err-reserve-clause-more c = λ size most are.
    more_room size most c.loop-row.rows c.loop-row.row-index c.reserve.new.self c.row-item.result (omega arith) c.reserve.ensures.cells c.reserve.ensures.more (c.loop-row.invariant.more size most are)

pub loop-row-preserved : goal.loop-row-preserved
loop-row-preserved c =
    let within : c.loop-row.row-index < length c.loop-row.rows = omega arith in
    let cells = c.reserve.ensures.cells in
    record {
      cells = same_cells c.loop-row.rows c.loop-row.row-index c.reserve.new.self c.row-item.result within cells ∙ c.loop-row.invariant.cells;
      more = λ size most are. more_room size most c.loop-row.rows c.loop-row.row-index c.reserve.new.self c.row-item.result within cells c.reserve.ensures.more (c.loop-row.invariant.more size most are);
      room =
          λ size most are.
          room_next size most c.args.room c.loop-row.rows c.loop-row.row-index c.reserve.new.self c.row-item.result within cells c.in_ok-reserve.ensures.room (c.loop-row.invariant.more size most are) (c.loop-row.invariant.room size most are);
    }

pub returns-clause-room : goal.returns-clause-room
returns-clause-room c = λ size most are.
    subst (λ (l : List RowSeen). AreRows size c.args.room l) (take_all c.loop-row.row-index c.loop-row.rows (omega arith)) (c.loop-row.invariant.room size most are)
