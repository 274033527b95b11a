use Rattle.std.proofs.Common.{refl, length-set}
use Rattle.row_order.proofs.KeptLemmas.{order_is, kept_renamed, ids_renamed, absent_renamed}
use Rattle.row_order.proofs.order.RowOrder.rename.Goals as goal

pub returns-in_default : goal.returns-in_default
returns-in_default c = rw (← c.self.view_is) (order_is (absent_renamed _ _ _ c.args.to c.deref.ensures.value c.in_default.ensures) refl)

pub invariant_of-self : goal.invariant_of-self
invariant_of-self c =
    kept_renamed c.self.invariant c.in-Some.cell c.args.from c.args.to _ c.deref.ensures.value c.in-Some.ensures
    (rw (← c.self.view_is) at c.requires.slot) (rw (← c.self.view_is) at c.requires.new)

pub returns : goal.returns
returns c = rw (← c.self.view_is)
    (order_is (ids_renamed c.self.invariant c.in-Some.cell c.args.from c.args.to _ c.deref.ensures.value c.in-Some.ensures)
    (length-set c.self.inside.cell_of.items c.args.to c.in-Some.cell))
