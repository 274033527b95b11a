use Rattle.std.proofs.Common.{◌≡◌, ◌+◌, ◌*◌, ◌-◌, ◌%◌, ◌^◌, ◌<◌, ℕ, Some, subst, ap, arith}
use Rattle.std.proofs.lemmas.Option.{same_Some}
use Rattle.ip_match.specs.declared.colons.Groups.{Groups}
use Rattle.ip_match.proofs.ShortenedLemmas.{shortened_value, shortened_from, shift_whole, sum_fits}
use Rattle.ip_match.proofs.colons.read_shortened.Goals as goal

-- what groups add to the number on the left of `::`
abbrev shifted : Groups → ℕ
shifted groups = groups.number * 2 ^ (16 * (8 - groups.count))

abbrev number_of : Groups → ℕ
number_of groups = groups.number

abbrev count_of : Groups → ℕ
count_of groups = groups.count

nothing_shifted : (groups : Groups) → groups.number < 2 ^ (16 * groups.count) → groups.count ≡ 0 → shifted groups ≡ 0
nothing_shifted groups small none =
    let less : groups.number < 2 ^ (16 * 0) = subst (λ (n : ℕ). groups.number < 2 ^ (16 * n)) none small in
    let zero_number : groups.number ≡ 0 = omega arith in
    let product = ap (λ (n : ℕ). n * 2 ^ (16 * (8 - groups.count))) zero_number in
    omega arith

pub overflow_add-result : goal.overflow_add-result
overflow_add-result c =
    let left = c.in_ok-left.left in
    let right = c.in_ok-right.right in
    let whole = shift_whole left.number left.count c.in_ok-left.ensures.small (omega arith) in
    omega (arith, whole, sum_fits left.number right.number left.count right.count c.in_ok-left.ensures.small c.in_ok-right.ensures.small (omega arith))

pub returns-then-left-eq0-clause-found : goal.returns-then-left-eq0-clause-found
returns-then-left-eq0-clause-found c =
    let l = c.in_ok-left.ensures.found in
    let r = c.in_ok-right.ensures.found in
    let none = nothing_shifted c.in_ok-left.left c.in_ok-left.ensures.small c.if-left-eq0.true in
    shortened_from _ _ l.0 r.0 _ l.1 r.1 (omega (arith, ap count_of l.2, ap count_of r.2)) (omega (arith, none, ap shifted l.2, ap number_of r.2))

pub returns-then-left-eq0-clause-only : goal.returns-then-left-eq0-clause-only
returns-then-left-eq0-clause-only c = λ n s.
    let l = same_Some _ _ (c.in_ok-left.ensures.only s.left s.left_spelled (omega (arith, s.eight))) in
    let r = same_Some _ _ (c.in_ok-right.ensures.only s.right s.right_spelled (omega (arith, s.eight))) in
    let none = nothing_shifted c.in_ok-left.left c.in_ok-left.ensures.small c.if-left-eq0.true in
    let same : c.in_ok-right.right.number ≡ n = omega (arith, none, ap shifted l, ap number_of r, shortened_value _ _ n s) in
    ap Some same

pub returns-clause-found : goal.returns-clause-found
returns-clause-found c =
    let l = c.in_ok-left.ensures.found in
    let r = c.in_ok-right.ensures.found in
    let whole = shift_whole c.in_ok-left.left.number c.in_ok-left.left.count c.in_ok-left.ensures.small (omega arith) in
    shortened_from _ _ l.0 r.0 _ l.1 r.1 (omega (arith, ap count_of l.2, ap count_of r.2)) (omega (arith, whole, ap shifted l.2, ap number_of r.2))

pub returns-clause-only : goal.returns-clause-only
returns-clause-only c = λ n s.
    let left = c.in_ok-left.left in
    let l = same_Some _ _ (c.in_ok-left.ensures.only s.left s.left_spelled (omega (arith, s.eight))) in
    let r = same_Some _ _ (c.in_ok-right.ensures.only s.right s.right_spelled (omega (arith, s.eight))) in
    let whole = shift_whole left.number left.count c.in_ok-left.ensures.small (omega arith) in
    let same : left.number * 2 ^ (16 * (8 - left.count)) % 2 ^ 128 + c.in_ok-right.right.number ≡ n = omega (arith, whole, ap shifted l, ap number_of r, shortened_value _ _ n s) in
    ap Some same
