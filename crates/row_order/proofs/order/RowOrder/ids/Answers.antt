use Rattle.row_order.proofs.KeptLemmas.{front_ids}
use Rattle.row_order.proofs.order.RowOrder.ids.Goals as goal

pub returns : goal.returns
returns c = rw (← c.self.view_is) (front_ids c.self.invariant _ _ c.deref.ensures.value c.new.ensures)
