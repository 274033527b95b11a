use Rattle.std.proofs.Common.{refl, ◌∙◌}
use Rattle.row_order.proofs.KeptLemmas.{order_is, one_stands, written, removed_kept, removed_ids, absent_ids}
use Rattle.row_order.proofs.order.RowOrder.remove.Goals as goal

pub returns-in_default : goal.returns-in_default
returns-in_default c = rw (← c.self.view_is) (order_is (absent_ids _ _ _ c.deref.ensures.value c.in_default.ensures) refl)

pub invariant_of-self : goal.invariant_of-self
invariant_of-self c =
    rw (
      written _ c.clear_cell.new.cells _ (c.clear_cell.auto.cells ∙ c.deref_mut.ensures.len),
      written _ c.clear_cell.new.rank _ (c.clear_cell.auto.rank ∙ c.deref_mut-2.ensures.len),
      written _ c.clear_cell.new.before _ (c.clear_cell.auto.before ∙ c.deref_mut-3.ensures.len),
    )
    (removed_kept c.self.invariant c.in-Some.cell c.args.id _ _ _ _ _ c.deref.ensures.value c.in-Some.ensures c.deref_mut.ensures.value c.clear_cell.ensures.cells
    c.clear_cell.ensures.counted)

pub returns : goal.returns
returns c =
    rw (written _ c.clear_cell.new.cells _ (c.clear_cell.auto.cells ∙ c.deref_mut.ensures.len), ← c.self.view_is)
    (order_is (removed_ids c.self.invariant c.in-Some.cell c.args.id _ _ _ c.deref.ensures.value c.in-Some.ensures c.deref_mut.ensures.value c.clear_cell.ensures.cells) refl)

pub overflow_sub-self : goal.overflow_sub-self
overflow_sub-self c = one_stands c.self.invariant c.in-Some.cell c.args.id _ c.deref.ensures.value c.in-Some.ensures
