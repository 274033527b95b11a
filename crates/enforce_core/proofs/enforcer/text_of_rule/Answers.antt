use Rattle.std.proofs.Common.{None, Some, ap, arith, refl}
use Rattle.enforce_core.proofs.ShowLemmas.{text_there, text_zero}
use Rattle.enforce_core.proofs.enforcer.text_of_rule.Goals as goal

pub returns-then-row-eq0 : goal.returns-then-row-eq0
returns-then-row-eq0 c = text_zero c.args.tables.now.policy c.args.row c.if-row-eq0.true

pub returns-in_default : goal.returns-in_default
returns-in_default c = text_there c.args.tables.now.policy c.args.row None None (λ zeroth. omega (arith, zeroth, c.if-row-eq0.false)) c.in_default.ensures refl

pub returns : goal.returns
returns c = text_there c.args.tables.now.policy c.args.row (Some c.in-Some.rule.now) (Some c.in_ok-text.text) (λ zeroth. omega (arith, zeroth, c.if-row-eq0.false)) c.in-Some.ensures (ap Some c.in_ok-text.ensures)
