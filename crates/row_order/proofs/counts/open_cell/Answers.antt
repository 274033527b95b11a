use Rattle.row_order.proofs.CountedLemmas.{opened_new, opened_same}
use Rattle.row_order.proofs.counts.open_cell.Goals as goal
use Rattle.row_order.proofs.counts.open_cell.Goals.{then-tail-eq0, else-tail-eq0}

pub returns : goal.returns
returns c = elim c.if-tail-eq0.branch [
  | then-tail-eq0 w ↦ rw w.before-is (opened_new c.args.rank.now c.args.before.now c.args.tail c.args.count c.requires.in_rank c.requires.in_before w.if-tail-eq0.true)
  | else-tail-eq0 w ↦ rw w.before-is (opened_same c.args.rank.now c.args.before.now c.args.tail c.args.count c.requires.in_rank (c.requires.low w.if-tail-eq0.false) w.if-tail-eq0.false)
]
