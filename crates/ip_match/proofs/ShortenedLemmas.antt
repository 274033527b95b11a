-- The number of the groups on both sides of `::`, by positional value.
use Rattle.std.proofs.Common.{◌≡◌, ℕ, zero, suc, ◌+◌, ◌-◌, ◌*◌, ◌%◌, ◌^◌, ◌<◌, ◌≤◌, List, [], ◌∷◌, ◌++◌, length, replicate, refl, sym, ap, ◌∙◌, arith}
use Rattle.std.specs.Int.Digits.{number_from_digits, number_from_digits_after}
use Rattle.std.specs.Str.Parse.{digits_value}
use Rattle.std.proofs.Math.Nat.{pow-suc, pow-zero, pow-le-pow_right}
use Rattle.std.proofs.lemmas.Int.Digits.{number_after_append}
use Rattle.std.proofs.lemmas.List.{length-map, length-replicate}
use Rattle.std.proofs.lemmas.Nat.{pow-add, shl_whole, mul-add-lt}
use Rattle.ip_match.specs.Addresses.{AreGroups, IsShortened, group_numbers}

after_is : (b n : ℕ) (ds : List ℕ) → number_from_digits_after b n ds ≡ n * b ^ length ds + number_from_digits b ds
after_is b n [] = rw pow-zero (omega arith)
after_is b n (d ∷ ds) =
    let here = after_is b (n * b + d) ds in
    let there = after_is b (0 * b + d) ds in
    let power = pow-suc b (length ds) in
    let product : n * b ^ suc (length ds) ≡ n * (b ^ length ds * b) = ap (λ (m : ℕ). n * m) power in
    omega (arith, here, there, product)

zeros_are : (z : ℕ) → number_from_digits 65536 (replicate z 0) ≡ 0
zeros_are zero = refl
zeros_are (suc z) = zeros_are z

power_is : (m : ℕ) → 2 ^ (16 * m) ≡ 65536 ^ m
power_is zero = refl
power_is (suc m) =
    let wider : 2 ^ (16 * m + 16) ≡ 2 ^ (16 * m) * 2 ^ 16 = pow-add 2 (16 * m) 16 in
    let same : 2 ^ (16 * suc m) ≡ 2 ^ (16 * m + 16) = ap (λ (n : ℕ). 2 ^ n) (omega arith) in
    omega (arith, power_is m, pow-suc 65536 m)

digits_value_of : (left right : List ℕ) (zeros : ℕ) → length left + zeros + length right ≡ 8 → number_from_digits 65536 (left ++ replicate zeros 0 ++ right) ≡ number_from_digits 65536 left * 2 ^ (16 * (8 - length left)) + number_from_digits 65536 right
digits_value_of left right zeros eight =
    let whole = number_after_append 65536 0 (left ++ replicate zeros 0) right in
    let last = after_is 65536 (number_from_digits 65536 (left ++ replicate zeros 0)) right in
    let front = number_after_append 65536 0 left (replicate zeros 0) in
    let middle = after_is 65536 (number_from_digits 65536 left) (replicate zeros 0) in
    let none = zeros_are zeros in
    let long = ap (λ (n : ℕ). number_from_digits 65536 left * 65536 ^ n) (length-replicate {A = ℕ} zeros 0) in
    let both : 65536 ^ (zeros + length right) ≡ 65536 ^ zeros * 65536 ^ length right = pow-add 65536 zeros (length right) in
    let missing : 8 - length left ≡ zeros + length right = omega arith in
    let shift : 2 ^ (16 * (8 - length left)) ≡ 65536 ^ zeros * 65536 ^ length right = power_is (8 - length left) ∙ ap (λ (n : ℕ). 65536 ^ n) missing ∙ both in
    let shifted = ap (λ (n : ℕ). number_from_digits 65536 left * n) shift in
    let before : number_from_digits 65536 (left ++ replicate zeros 0) ≡ number_from_digits 65536 left * 65536 ^ zeros = omega (arith, front, middle, none, long) in
    let moved = ap (λ (n : ℕ). n * 65536 ^ length right) before in
    omega (arith, whole, last, moved, shifted)

-- the value of groups on both sides
pub shortened_value : (front back : List ℕ) (number : ℕ) (s : IsShortened front back number) → number ≡ number_from_digits 65536 (group_numbers s.left) * 2 ^ (16 * (8 - length s.left)) + number_from_digits 65536 (group_numbers s.right)
shortened_value front back number s =
    let eight : length (group_numbers s.left) + s.zeros + length (group_numbers s.right) ≡ 8 = rw (length-map s.left (digits_value 16), length-map s.right (digits_value 16)) s.eight in
    let value = digits_value_of (group_numbers s.left) (group_numbers s.right) s.zeros eight in
    s.value ∙ rw (length-map s.left (digits_value 16)) at value

pub shortened_from : (front back : List ℕ) (left right : List (List ℕ)) (number : ℕ) → AreGroups front left → AreGroups back right → length left + length right < 8 → number ≡ number_from_digits 65536 (group_numbers left) * 2 ^ (16 * (8 - length left)) + number_from_digits 65536 (group_numbers right) → IsShortened front back number
shortened_from front back left right number h k room e =
    let zeros : ℕ = 8 - (length left + length right) in
    let eight : length (group_numbers left) + zeros + length (group_numbers right) ≡ 8 = rw (length-map left (digits_value 16), length-map right (digits_value 16)) (omega arith) in
    let value = digits_value_of (group_numbers left) (group_numbers right) zeros eight in
    record {
      left = left;
      right = right;
      zeros = zeros;
      left_spelled = h;
      right_spelled = k;
      some = omega arith;
      eight = omega arith;
      value = e ∙ sym (rw (length-map left (digits_value 16)) at value);
    }

-- the shift loses nothing, and the sum fits
pub shift_whole : (m count : ℕ) → m < 2 ^ (16 * count) → count ≤ 8 → m * 2 ^ (16 * (8 - count)) % 2 ^ 128 ≡ m * 2 ^ (16 * (8 - count))
shift_whole m count h k = shl_whole m (16 * count) (16 * (8 - count)) 128 h (omega arith)

pub sum_fits : (m n left right : ℕ) → m < 2 ^ (16 * left) → n < 2 ^ (16 * right) → left + right < 8 → m * 2 ^ (16 * (8 - left)) + n < 2 ^ 128
sum_fits m n left right h k room =
    let wider : 2 ^ (16 * right) ≤ 2 ^ (16 * (8 - left)) = pow-le-pow_right (omega arith) {i = 16 * right} {j = 16 * (8 - left)} (omega arith) in
    let below = mul-add-lt m (2 ^ (16 * (8 - left))) n (2 ^ (16 * left)) h (omega arith) in
    let all : 2 ^ (16 * (8 - left) + 16 * left) ≡ 2 ^ (16 * (8 - left)) * 2 ^ (16 * left) = pow-add 2 (16 * (8 - left)) (16 * left) in
    let bits : 16 * (8 - left) + 16 * left ≡ 128 = omega arith in
    let same = ap (λ (n : ℕ). 2 ^ n) bits in
    omega arith
