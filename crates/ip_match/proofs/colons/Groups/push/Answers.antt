use Rattle.std.proofs.Common.{◌*◌, ◌≤◌, ◌^◌, arith}
use Rattle.std.proofs.Math.Nat.{pow-le-pow_right}
use Rattle.ip_match.proofs.colons.Groups.push.Goals as goal

pub overflow_mul-result : goal.overflow_mul-result
overflow_mul-result c =
    let room : 2 ^ (16 * c.args.self.count) ≤ 2 ^ 112 = pow-le-pow_right (omega arith) {i = 16 * c.args.self.count} {j = 112} (omega arith) in
    omega arith

pub overflow_add-result-2 : goal.overflow_add-result-2
overflow_add-result-2 c =
    let room : 2 ^ (16 * c.args.self.count) ≤ 2 ^ 112 = pow-le-pow_right (omega arith) {i = 16 * c.args.self.count} {j = 112} (omega arith) in
    omega arith
