use Rattle.row_order.proofs.KeptLemmas.{number_fits, number_answer, none_answer}
use Rattle.row_order.proofs.order.RowOrder.number_of.Goals as goal

pub returns-in_default : goal.returns-in_default
returns-in_default c = rw (← c.self.view_is) (none_answer _ _ _ c.deref.ensures.value c.in_default.ensures)

pub number_at-requires-clause-fits : goal.number_at-requires-clause-fits
number_at-requires-clause-fits c =
    number_fits c.self.invariant _ _ _ _ _ c.deref.ensures.value c.deref-3.ensures.value c.deref-4.ensures.value c.in-Some.ensures

pub returns : goal.returns
returns c = rw (← c.self.view_is)
    (number_answer c.self.invariant _ _ _ _ _ _ c.deref.ensures.value c.deref-3.ensures.value c.deref-4.ensures.value c.in-Some.ensures c.number_at.ensures)
