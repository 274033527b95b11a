-- Lists in a strict order: one more element in its place, and the sorted list of the elements of any list.
use Rattle.std.proofs.Common.{◌≡◌, ◌⊎◌, inl, inr, List, [], ◌∷◌, refl, sym, ap, subst, ◌∙◌, arith}
use Rattle.std.specs.Prelude.{AllPairs}
use Rattle.std.specs.BTreeSet.{insert_key}
use Rattle.std.specs.Cmp.{IsTotalOrder}
use Rattle.std.specs.List.{Contains}
use Rattle.std.specs.List.Sorted.{IsStrictlySortedBy}
use Rattle.std.specs.Ordering.{match_ordering, ordering_reverse}
use Rattle.std.specs.declared.cmp.Ordering.{Ordering}
use Rattle.std.specs.declared.cmp.Ordering.TheVariants.{Less, Equal, Greater}
use Rattle.std.proofs.lemmas.List.Elements.{All-contains, All-from_recursion}
use Rattle.std.proofs.lemmas.List.Kept.{AllPairs-cons}
use Rattle.role_meaning.proofs.CallerLemmas.{all_standing, pairs_head, pairs_tail, stands_behind, stands_cases, stands_here, stands_nowhere}

-- a key that compares equal is the same
pub record IsStrict {X : Type 0} (cmp : X → X → Ordering) : Type 0 where
  pub total : IsTotalOrder cmp
  pub same : (x y : X) → cmp x y ≡ Equal → x ≡ y

module _ {X : Type 0} (cmp : X → X → Ordering) where
  abbrev pub IsBelow : X → X → Type 0
  IsBelow x y = cmp x y ≡ Less

  -- sorted by recursion is sorted in pairs
  pub pairs_from_sorted : (xs : List X) → IsStrictlySortedBy cmp xs → AllPairs IsBelow xs
  unfolding IsStrictlySortedBy
  pairs_from_sorted [] sorted = λ i j d less within. absurd (omega arith)
  pairs_from_sorted (x ∷ xs) sorted = AllPairs-cons IsBelow x xs (All-from_recursion (IsBelow x) xs sorted.0) (pairs_from_sorted xs sorted.1)

  -- the elements of a list, each once, in order
  abbrev pub sorted_of : List X → List X
  sorted_of [] = []
  sorted_of (x ∷ xs) = insert_key cmp (sorted_of xs) x

  module _ (strict : IsStrict cmp) where
    pub put_cases : (xs : List X) (x y : X) → Contains (insert_key cmp xs x) y → (x ≡ y) ⊎ Contains xs y
    put_cases [] x y stands = stands_cases x [] y stands
    put_cases (z ∷ xs) x y stands = by (cmp x z) (insert_key cmp xs x) (put_cases xs x y) stands
      where
        behind : (x ≡ y) ⊎ Contains xs y → (x ≡ y) ⊎ Contains (z ∷ xs) y
        behind (inl e) = inl e
        behind (inr there) = inr (stands_behind z xs y there)

        by : (o : Ordering) (put : List X) → (Contains put y → (x ≡ y) ⊎ Contains xs y) → Contains (match_ordering o (x ∷ z ∷ xs) (z ∷ xs) (z ∷ put)) y → (x ≡ y) ⊎ Contains (z ∷ xs) y
        by Less put more here = stands_cases x (z ∷ xs) y here
        by Equal put more here = inr here
        by Greater put more here = later (stands_cases z put y here)
          where
            later : (z ≡ y) ⊎ Contains put y → (x ≡ y) ⊎ Contains (z ∷ xs) y
            later (inl e) = inr (subst (Contains (z ∷ xs)) e (stands_here z xs))
            later (inr there) = behind (more there)

    pub put_stands : (xs : List X) (x y : X) → (x ≡ y) ⊎ Contains xs y → Contains (insert_key cmp xs x) y
    put_stands [] x y (inl e) = subst (Contains (x ∷ [])) e (stands_here x [])
    put_stands [] x y (inr none) = absurd (stands_nowhere y none)
    put_stands (z ∷ xs) x y there = by (cmp x z) refl (insert_key cmp xs x) (put_stands xs x y) there
      where
        by : (o : Ordering) → cmp x z ≡ o → (put : List X) → ((x ≡ y) ⊎ Contains xs y → Contains put y) → (x ≡ y) ⊎ Contains (z ∷ xs) y → Contains (match_ordering o (x ∷ z ∷ xs) (z ∷ xs) (z ∷ put)) y
        by Less is put more (inl e) = subst (Contains (x ∷ z ∷ xs)) e (stands_here x (z ∷ xs))
        by Less is put more (inr old) = stands_behind x (z ∷ xs) y old
        by Equal is put more (inl e) = subst (Contains (z ∷ xs)) (sym (strict.same x z is) ∙ e) (stands_here z xs)
        by Equal is put more (inr old) = old
        by Greater is put more (inl e) = stands_behind z put y (more (inl e))
        by Greater is put more (inr old) = later (stands_cases z xs y old)
          where
            later : (z ≡ y) ⊎ Contains xs y → Contains (z ∷ put) y
            later (inl e) = subst (Contains (z ∷ put)) e (stands_here z put)
            later (inr rest) = stands_behind z put y (more (inr rest))

    turned : (x z : X) → cmp x z ≡ Greater → cmp z x ≡ Less
    turned x z is = strict.total.antisymm z x ∙ ap ordering_reverse is

    pub put_sorted : (xs : List X) (x : X) → AllPairs IsBelow xs → AllPairs IsBelow (insert_key cmp xs x)
    put_sorted [] x pairs = AllPairs-cons IsBelow x [] (all_standing (IsBelow x) [] (λ y none. absurd (stands_nowhere y none))) pairs
    put_sorted (z ∷ xs) x pairs = by (cmp x z) refl (put_sorted xs x (pairs_tail IsBelow z xs pairs))
      where
        below : (y : X) → Contains xs y → cmp z y ≡ Less
        below y there = All-contains (IsBelow z) xs y (pairs_head IsBelow z xs pairs) there

        first : cmp x z ≡ Less → (y : X) → (z ≡ y) ⊎ Contains xs y → cmp x y ≡ Less
        first less y (inl e) = subst (IsBelow x) e less
        first less y (inr there) = strict.total.trans x z y less (below y there)

        later : cmp x z ≡ Greater → (y : X) → (x ≡ y) ⊎ Contains xs y → cmp z y ≡ Less
        later is y (inl e) = subst (IsBelow z) e (turned x z is)
        later is y (inr there) = below y there

        by : (o : Ordering) → cmp x z ≡ o → AllPairs IsBelow (insert_key cmp xs x) → AllPairs IsBelow (match_ordering o (x ∷ z ∷ xs) (z ∷ xs) (z ∷ insert_key cmp xs x))
        by Less is rest = AllPairs-cons IsBelow x (z ∷ xs) (all_standing (IsBelow x) (z ∷ xs) (λ y there. first is y (stands_cases z xs y there))) pairs
        by Equal is rest = pairs
        by Greater is rest = AllPairs-cons IsBelow z (insert_key cmp xs x) (all_standing (IsBelow z) (insert_key cmp xs x) (λ y there. later is y (put_cases xs x y there))) rest

    pub sorted_cases : (xs : List X) (y : X) → Contains (sorted_of xs) y → Contains xs y
    sorted_cases [] y none = none
    sorted_cases (x ∷ xs) y stands = by (put_cases (sorted_of xs) x y stands) (sorted_cases xs y)
      where
        by : (x ≡ y) ⊎ Contains (sorted_of xs) y → (Contains (sorted_of xs) y → Contains xs y) → Contains (x ∷ xs) y
        by (inl e) more = subst (Contains (x ∷ xs)) e (stands_here x xs)
        by (inr there) more = stands_behind x xs y (more there)

    pub sorted_stands : (xs : List X) (y : X) → Contains xs y → Contains (sorted_of xs) y
    sorted_stands [] y none = none
    sorted_stands (x ∷ xs) y stands = by (stands_cases x xs y stands) (sorted_stands xs y)
      where
        by : (x ≡ y) ⊎ Contains xs y → (Contains xs y → Contains (sorted_of xs) y) → Contains (insert_key cmp (sorted_of xs) x) y
        by (inl e) more = put_stands (sorted_of xs) x y (inl e)
        by (inr there) more = put_stands (sorted_of xs) x y (inr (more there))

    pub sorted_order : (xs : List X) → AllPairs IsBelow (sorted_of xs)
    sorted_order [] = λ i j d less within. absurd (omega arith)
    sorted_order (x ∷ xs) = put_sorted (sorted_of xs) x (sorted_order xs)
