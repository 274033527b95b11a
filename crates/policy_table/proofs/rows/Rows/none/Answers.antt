use Rattle.std.proofs.Common.{ℕ, List, [], arith, ap, sym, subst}
use Rattle.policy_table.specs.Helps.Orders.{AreBelow, in_order}
use Rattle.policy_table.proofs.rows.Rows.none.Goals as goal

pub invariant_of-result : goal.invariant_of-result
invariant_of-result c = subst (λ (l : List ℕ). AreBelow _ l) (sym c.none.ensures) (λ k d within. absurd (omega (arith, within)))

pub returns : goal.returns
returns c = ap (in_order []) c.none.ensures
