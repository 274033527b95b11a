use Rattle.std.proofs.Common.{◌≤◌, ◌^◌, length, arith}
use Rattle.std.proofs.Math.Nat.{pow-le-pow_right}
use Rattle.std.proofs.lemmas.Int.Digits.{digits_value-lt}
use Rattle.ip_match.proofs.numeral.read_group.Goals as goal

pub returns-in_err-number : goal.returns-in_err-number
returns-in_err-number c =
    let text = c.args.text.now in
    rw c.from_residual.ensures (λ h.
    let below = digits_value-lt 16 text h.0.1 in
    let short : 16 ^ length text ≤ 16 ^ 4 = pow-le-pow_right (omega arith) {i = length text} {j = 4} (omega arith) in
    c.in_err-number.ensures (h.0, omega arith))
