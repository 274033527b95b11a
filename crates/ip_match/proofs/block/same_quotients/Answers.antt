use Rattle.std.proofs.Common.{◌≡◌, ◌/◌, ◌^◌, ◌≤◌, ◌<◌, ℕ, le-leb, zero-add, sym, ◌∙◌, arith}
use Rattle.std.proofs.Math.Nat.{pow-le-pow_right}
use Rattle.std.proofs.lemmas.Nat.{shr_below}
use Rattle.ip_match.proofs.block.same_quotients.Goals as goal

-- a number of at most 128 bits, shifted by as many
none_left : (n k : ℕ) → n < 2 ^ 128 → 128 ≤ k → n / 2 ^ k ≡ 0
none_left n k small far =
    let wider : 2 ^ 128 ≤ 2 ^ k = pow-le-pow_right (omega arith) {i = 128} {j = k} far in
    omega (arith, shr_below n 0 k (rw zero-add (omega arith)))

pub returns-then-bits_behind-ge-BITS : goal.returns-then-bits_behind-ge-BITS
returns-then-bits_behind-ge-BITS c =
    let n = c.args.bits_behind in
    (λ _. none_left c.args.a n (omega arith) (omega arith) ∙ sym (none_left c.args.b n (omega arith) (omega arith)), λ _. le-leb 128 n (omega arith))
