use Rattle.std.proofs.Common.{◌≡◌, Some, length, get_or, sym, ap, arith}
use Rattle.ip_match.proofs.NumeralLemmas.{decimal_first, digits_of_decimal, decimal_of_digits}
use Rattle.ip_match.proofs.numeral.read_decimal.Goals.{else-text-gt1-via-then-text-gt1+else-text-eq-ZERO, else-text-gt1-via-else-text-gt1}
use Rattle.ip_match.proofs.numeral.read_decimal.Goals as goal

pub returns-then-text-eq-ZERO-clause-only : goal.returns-then-text-eq-ZERO-clause-only
returns-then-text-eq-ZERO-clause-only c = λ n small spelled.
    absurd (decimal_first n (omega arith) (rw (← spelled) (omega arith)) (rw (← spelled) c.if-text-eq-ZERO.true))

pub returns-in_err-number-clause-only : goal.returns-in_err-number-clause-only
returns-in_err-number-clause-only c = λ n small spelled.
    let digits = digits_of_decimal c.args.text.now n (omega arith) spelled in
    absurd (c.in_err-number.ensures (digits.0, omega arith))

pub returns-clause-found : goal.returns-clause-found
returns-clause-found c =
    let read = c.in_ok-number.ensures in
    let first : get_or c.args.text.now 0 0 ≡ 48 → length c.args.text.now ≡ 1 =
    elim c.else-text-gt1.branch [
      | else-text-gt1-via-then-text-gt1+else-text-eq-ZERO w ↦ λ h. absurd (w.if-text-eq-ZERO.false h)
      | else-text-gt1-via-else-text-gt1 w ↦ λ h. omega arith
    ]
    in
    (rw read.1 (sym (decimal_of_digits c.args.text.now read.0.0 (omega arith) first)), omega arith)

pub returns-clause-only : goal.returns-clause-only
returns-clause-only c = λ n small spelled.
    let digits = digits_of_decimal c.args.text.now n (omega arith) spelled in
    let same : c.in_ok-number.number ≡ n = omega (arith, c.in_ok-number.ensures) in
    ap Some same
