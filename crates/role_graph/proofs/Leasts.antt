-- Least numbers of which something holds.
use Rattle.std.proofs.Common.{◌≡◌, ◌⊎◌, inl, inr, ◌<◌, ◌≤◌, ◌+◌, ℕ, Bool, true, false, cond, nat_lt, refl, subst, arith, min}
use Rattle.std.proofs.lemmas.Bool.{cases_lt, ltb-false, ltb-true}
use Rattle.dist_rows.specs.Squares.{sum_of}
use Rattle.role_meaning.specs.Least.{IsLeast}

-- of the same numbers
pub least_alike : (most : ℕ) (Holds Other : ℕ → Type 0) (found : ℕ) → ((k : ℕ) → Holds k → Other k) → ((k : ℕ) → Other k → Holds k) → IsLeast most Holds found → IsLeast most Other found
least_alike most Holds Other found there back least = record {
  within = least.within;
  holds = λ low. there found (least.holds low);
  least = λ lower less other. least.least lower less (back lower other);
}

-- of none
pub least_none : (most : ℕ) (Holds : ℕ → Type 0) (found : ℕ) → found ≡ most + 1 → ((k : ℕ) → ¬ Holds k) → IsLeast most Holds found
least_none most Holds found is none = record {
  within = omega (arith, is);
  holds = λ low. absurd (omega (arith, is));
  least = λ lower less. none lower;
}

-- of either
pub least_either : (most : ℕ) (Holds Other : ℕ → Type 0) (one other found : ℕ) → IsLeast most Holds one → IsLeast most Other other → found ≡ min one other → IsLeast most (λ k. Holds k ⊎ Other k) found
least_either most Holds Other one other found first second is = record {
  within = omega (arith, is, first.within, second.within);
  holds = λ low. by low (cases_lt other one);
  least = λ lower less. below lower less;
}
  where
    by : found ≤ most → (other < one) ⊎ (one ≤ other) → Holds found ⊎ Other found
    by low (inl less) = let same : other ≡ found = omega (arith, is) in inr (subst Other same (second.holds (omega (arith, same))))
    by low (inr more) = let same : one ≡ found = omega (arith, is) in inl (subst Holds same (first.holds (omega (arith, same))))

    below : (lower : ℕ) → lower < found → ¬ (Holds lower ⊎ Other lower)
    below lower less (inl holds) = first.least lower (omega (arith, is)) holds
    below lower less (inr holds) = second.least lower (omega (arith, is)) holds

-- how far the least number is below a bound
pub least_below : (most : ℕ) (Holds : ℕ → Type 0) (found k : ℕ) → IsLeast most Holds found → Holds k → found ≤ k
least_below most Holds found k least holds = by (cases_lt k found)
  where
    by : (k < found) ⊎ (found ≤ k) → found ≤ k
    by (inl less) = absurd (least.least k less holds)
    by (inr within) = within

-- a sum of distances, as far as it is told
pub cases_sum : (add d : ℕ) → ((add + d ≤ 254) × (sum_of add d ≡ add + d)) ⊎ ((254 < add + d) × (sum_of add d ≡ 255))
cases_sum add d = by (nat_lt 254 (add + d)) refl
  where
    by : (test : Bool) → nat_lt 254 (add + d) ≡ test → ((add + d ≤ 254) × (cond test 255 (add + d) ≡ add + d)) ⊎ ((254 < add + d) × (cond test 255 (add + d) ≡ 255))
    by true is = inr (ltb-true 254 (add + d) is, refl)
    by false is = inl (ltb-false 254 (add + d) is, refl)
