use Rattle.std.proofs.Common.{◌≡◌, ◌∷◌, [], false, refl, arith}
use Rattle.std.specs.Str.{bytes_eq}
use Rattle.model_conf.proofs.sections.relation_named.Goals as goal

pub returns-clause-none : goal.returns-clause-none
returns-clause-none c =
    let one : bytes_eq c.args.key.now (103 ∷ []) ≡ false = c.loop-number.invariant 1 (omega arith) (omega arith) in
    let two : bytes_eq c.args.key.now (103 ∷ 50 ∷ []) ≡ false = c.loop-number.invariant 2 (omega arith) (omega arith) in
    let three : bytes_eq c.args.key.now (103 ∷ 51 ∷ []) ≡ false = c.loop-number.invariant 3 (omega arith) (omega arith) in
    let four : bytes_eq c.args.key.now (103 ∷ 52 ∷ []) ≡ false = c.loop-number.invariant 4 (omega arith) (omega arith) in
    let five : bytes_eq c.args.key.now (103 ∷ 53 ∷ []) ≡ false = c.loop-number.invariant 5 (omega arith) (omega arith) in
    let six : bytes_eq c.args.key.now (103 ∷ 54 ∷ []) ≡ false = c.loop-number.invariant 6 (omega arith) (omega arith) in
    let seven : bytes_eq c.args.key.now (103 ∷ 55 ∷ []) ≡ false = c.loop-number.invariant 7 (omega arith) (omega arith) in
    let eight : bytes_eq c.args.key.now (103 ∷ 56 ∷ []) ≡ false = c.loop-number.invariant 8 (omega arith) (omega arith) in
    rw (one, two, three, four, five, six, seven, eight) refl
