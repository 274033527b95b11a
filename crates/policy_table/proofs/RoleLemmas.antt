-- Sums over the relations of shapes.
use Rattle.std.proofs.Common.{◌≡◌, ℕ, ◌+◌, ◌<◌, ◌≤◌, zero, suc, Bool, true, false, cond, if◌then◌else◌, List, [], ◌∷◌, length, get_or, take, filter, map, refl, sym, ap, subst, ◌∙◌, arith}
use Rattle.std.proofs.lemmas.List.{get_or-map, length-map, take_all}
use Rattle.std.proofs.lemmas.List.Sums.{sum_by-cons, sum_by_more}
use Rattle.std.specs.List.{sum_by}
use Rattle.std.specs.List.Sorted.{IsStrictlyIncreasing}
use Rattle.perm_base.specs.Patterns.{is_pattern}
use Rattle.perm_base.specs.RoleShapes.{AreRoles}
use Rattle.perm_base.specs.declared.shapes.RoleShape.{RoleShape}
use Rattle.perm_base.specs.declared.shapes.Shapes.{Shapes}
use Rattle.perm_base.specs.declared.shapes.TableId.TheVariants.{G}
use Rattle.policy_table.specs.Helps.Counts.{pairs_of, patterns_of}
use Rattle.policy_table.specs.Limits.{different, domain_pairs, domains_of, pattern_rows}
use Rattle.policy_table.specs.Tables.{Policy, rows}

-- of rising numbers from 1 each is above its place
rising_at : (numbers : List ℕ) (k : ℕ) → IsStrictlyIncreasing numbers → 0 < get_or numbers 0 0 → k < length numbers → k < get_or numbers k 0
rising_at numbers zero rising some within = some
rising_at numbers (suc k) rising some within =
    let below = rising_at numbers k rising some (omega arith) in
    let next : get_or numbers k 0 < get_or numbers (k + 1) 0 = rising k (omega arith) in
    let here : k + 1 ≡ suc k = omega arith in
    subst (λ n. n < get_or numbers n 0) here (omega arith)

-- there are no more than 8 relations
pub few_roles : (shapes : List RoleShape) → AreRoles shapes → length shapes ≤ 8
few_roles [] are = omega arith
few_roles (shape ∷ shapes) are =
    let all : List RoleShape = shape ∷ shapes in
    let first = are.each 0 shape (omega arith) in
    let last = are.each (length shapes) shape (omega arith) in
    let within : length shapes < length (map (λ (s : RoleShape). s.number) all) = omega (arith, length-map all (λ (s : RoleShape). s.number)) in
    let above = rising_at (map (λ (s : RoleShape). s.number) all) (length shapes) are.rising first.some within in
    omega (arith, above, last.few, get_or-map (λ (s : RoleShape). s.number) all (length shapes) shape 0 (omega arith))

-- the sum over those that pass a test is that over all, where another counts nothing
pub sum_passing : {X : Type 0} (p : X → Bool) (f : X → ℕ) (xs : List X) → sum_by f (filter p xs) ≡ sum_by (λ x. if p x then f x else 0) xs
sum_passing p f [] = refl
sum_passing {X} p f (x ∷ xs) = by_test (p x) (sum_passing p f xs) ∙ sym (sum_by-cons (λ (y : X). if p y then f y else 0) x xs)
  where
    by_test : (test : Bool) → sum_by f (filter p xs) ≡ sum_by (λ y. if p y then f y else 0) xs
        → sum_by f (cond test (x ∷ filter p xs) (filter p xs)) ≡ (if test then f x else 0) + sum_by (λ y. if p y then f y else 0) xs
    by_test true e = sum_by-cons f x (filter p xs) ∙ ap (λ n. f x + n) e
    by_test false e = omega (arith, e)

-- a sum with one more item
pub sum_more : {X : Type 0} (f : X → ℕ) (xs : List X) (i : ℕ) (x : X) (count more : ℕ) → i < length xs → x ≡ get_or xs i x → count ≡ sum_by f (take i xs) → more ≡ f x → count + more ≡ sum_by f (take (i + 1) xs)
sum_more f xs i x count more within here so_far now = omega (arith, sum_by_more f xs i x within, ap f here, now, so_far)

-- the sum over all items that were seen, where another than those that pass counts nothing
sum_all : {X : Type 0} (p : X → Bool) (f : X → ℕ) (xs seen : List X) (i count : ℕ) → seen ≡ xs → length seen ≤ i → count ≡ sum_by (λ x. if p x then f x else 0) (take i seen) → count ≡ sum_by f (filter p xs)
sum_all {X} p f xs seen i count same all so_far = so_far ∙ ap (sum_by (λ (x : X). if p x then f x else 0)) (take_all i seen all ∙ same) ∙ sym (sum_passing p f xs)

-- the rules of all relations whose domain is a pattern, and the different domains
pub patterns_all : (policy : Policy) (shapes : Shapes) (seen : List RoleShape) (i count : ℕ) → seen ≡ shapes.roles → length seen ≤ i → count ≡ sum_by (patterns_of policy) (take i seen) → count ≡ pattern_rows shapes policy
patterns_all policy shapes = sum_all (λ (shape : RoleShape). shape.with_domain) (λ (shape : RoleShape). length (filter (is_pattern shape.domains) (domains_of (rows policy (G shape.number))))) shapes.roles

pub pairs_all : (policy : Policy) (shapes : Shapes) (seen : List RoleShape) (i count : ℕ) → seen ≡ shapes.roles → length seen ≤ i → count ≡ sum_by (pairs_of policy) (take i seen) → count ≡ domain_pairs shapes policy
pairs_all policy shapes = sum_all (λ (shape : RoleShape). shape.with_domain) (λ (shape : RoleShape). length (different (domains_of (rows policy (G shape.number))))) shapes.roles
