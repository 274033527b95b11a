use Rattle.std.proofs.Common.{arith, ◌≡◌, ◌-◌, length, replicate, ◌++◌, None}
use Rattle.row_order.proofs.KeptLemmas.{kept_grown, refilled, live_wide}
use Rattle.row_order.proofs.order.RowOrder.reserve.Goals as goal

pub invariant_of-self-2 : goal.invariant_of-self-2
invariant_of-self-2 c =
    let cells : c.fill_cells.new.cells.items ≡ c.self.inside.cells.items ++ replicate (c.max-wide.result - length c.self.inside.cells.items) None =
    refilled _ _ _ _ _ None c.prepare_cells.ensures.items c.prepare_cells.new.cells.ok.0 c.fill_cells.ensures in
    let ids : c.fill_counts-3.new.counts.items ≡ c.self.inside.cell_of.items ++ replicate (c.args.slots - length c.self.inside.cell_of.items) 0 =
    refilled _ _ _ _ _ 0 c.prepare_counts-3.ensures.items c.prepare_counts-3.new.counts.ok.0 c.fill_counts-3.ensures in
    let ranks : c.fill_counts-2.new.counts.items ≡ c.self.inside.rank.items ++ replicate (c.max-wide.result - length c.self.inside.rank.items) 0 =
    refilled _ _ _ _ _ 0 c.prepare_counts-2.ensures.items c.prepare_counts-2.new.counts.ok.0 c.fill_counts-2.ensures in
    let befores : c.fill_counts.new.counts.items ≡ c.self.inside.before.items ++ replicate (c.max-blocks.result - length c.self.inside.before.items) 0 =
    refilled _ _ _ _ _ 0 c.prepare_counts.ensures.items c.prepare_counts.new.counts.ok.0 c.fill_counts.ensures in
    rw (cells, ids, ranks, befores)
    (kept_grown c.self.invariant c.args.slots c.max-wide.result c.max-blocks.result
    (omega (arith, c.max-wide.ensures, c.len-2.ensures, c.self.inside.cells.ok.0))
    (omega (arith, c.len.ensures, c.if-slots-len.false, c.self.inside.cell_of.ok.0))
    (omega (arith, c.max-blocks.ensures, c.len-3.ensures, c.self.inside.before.ok.0))
    (omega (arith, c.max-wide.ensures))
    (omega (arith, c.max-blocks.ensures))
    (omega (arith, c.max-wide.ensures, c.len-2.ensures, c.self.inside.cells.ok.0, c.self.invariant.counted.small, c.if-slots-gt-MOST_SLOTS.false)))

pub returns-clause-ids : goal.returns-clause-ids
returns-clause-ids c =
    let cells : c.fill_cells.new.cells.items ≡ c.self.inside.cells.items ++ replicate (c.max-wide.result - length c.self.inside.cells.items) None =
    refilled _ _ _ _ _ None c.prepare_cells.ensures.items c.prepare_cells.new.cells.ok.0 c.fill_cells.ensures in
    rw (cells, ← c.self.view_is) (live_wide c.self.inside.cells.items (c.max-wide.result - length c.self.inside.cells.items))
