use Rattle.std.proofs.Common.{List, subst, sym, ap, ◌∙◌, arith}
use Rattle.dist_rows.specs.Helps.Rows.{AreRows, IsKept, RowSeen, cells_of}
use Rattle.dist_rows.proofs.CopyLemmas.{kept_copied}
use Rattle.dist_rows.proofs.squares.DistRows.copy.Goals as goal

pub invariant_of-result : goal.invariant_of-result
invariant_of-result c =
    let copies = c.in_ok-rows.rows in
    subst (λ (l : List RowSeen). IsKept copies.items l copies.cap) (sym c.new-free.ensures.items)
    (kept_copied c.self.inside.rows.items c.self.inside.free.items copies.items _ copies.cap c.self.invariant (c.in_ok-rows.ensures.cells ∙ ap cells_of c.deref.ensures.value)
    (λ size most are. c.in_ok-rows.ensures.rows size most (subst (AreRows size most) (sym c.deref.ensures.value) are)) (omega (arith, copies.ok.0, copies.ok.1)))
