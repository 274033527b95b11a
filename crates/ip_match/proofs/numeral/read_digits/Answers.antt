use Rattle.std.proofs.Common.{◌+◌, ◌*◌, ℕ, ap, arith}
use Rattle.std.proofs.lemmas.Int.Digits.{digits_value_more, digits_more}
use Rattle.std.proofs.lemmas.Str.Parse.{digits_value-take-le}
use Rattle.ip_match.proofs.NumeralLemmas.{not_digit_at}
use Rattle.ip_match.proofs.numeral.read_digits.Goals as goal

pub returns-in_err-number : goal.returns-in_err-number
returns-in_err-number c =
    rw c.from_residual.ensures (λ h. not_digit_at c.args.radix c.args.text.now c.loop-byte.byte-index 0 c.loop-byte-test.true (omega (arith, c.in_err-number.ensures.value)) h.0.1)

pub returns-then-number-most : goal.returns-then-number-most
returns-then-number-most c = λ h.
    let more = digits_value_more c.args.radix c.args.text.now c.loop-byte.byte-index c.loop-byte-test.true in
    let part = digits_value-take-le c.args.radix c.args.text.now (c.loop-byte.byte-index + 1) (omega arith) in
    let before = ap (λ (n : ℕ). n * c.args.radix) c.loop-byte.invariant.1 in
    omega (arith, c.in_ok-number.ensures.value)

pub loop-byte-preserved : goal.loop-byte-preserved
loop-byte-preserved c =
    let more = digits_value_more c.args.radix c.args.text.now c.loop-byte.byte-index c.loop-byte-test.true in
    let before = ap (λ (n : ℕ). n * c.args.radix) c.loop-byte.invariant.1 in
    (digits_more c.args.radix c.args.text.now c.loop-byte.byte-index c.loop-byte-test.true c.loop-byte.invariant.0 (c.in_ok-number.ensures.value.0), omega (arith, c.in_ok-number.ensures.value), omega arith)
