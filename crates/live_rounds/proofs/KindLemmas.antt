-- Kinds of items that stand first.
use Rattle.std.proofs.Common.{◌≡◌, ℕ, zero, suc, ◌+◌, ◌-◌, ◌<◌, ◌≤◌, min, Bool, true, false, List, [], ◌∷◌, drop, length, take, sym, ap, refl, ◌∙◌, arith}
use Rattle.std.specs.Prelude.{None, Some, cond}
use Rattle.std.specs.Bool.{beq}
use Rattle.std.specs.List.{prefix_len, slice_get}
use Rattle.std.proofs.lemmas.List.{length-drop, take_min}
use Rattle.live_rounds.specs.Helps.MergedItems.{BeginsWith}

-- as many as are wanted, as far as there are so many
pub first_ones : (all : List Bool) (passed most count : ℕ) → count ≡ min most (length all - passed) → take (passed + count - passed) (drop passed all) ≡ take most (drop passed all)
first_ones all passed most count count-is =
    let size : passed + count - passed ≡ min most (length (drop passed all)) = omega (arith, count-is, length-drop passed all) in
    ap (λ (n : ℕ). take n (drop passed all)) size ∙ take_min most (drop passed all)

prefix_few : (test : Bool → Bool) (n : ℕ) (kinds : List Bool) → prefix_len test (take n kinds) ≤ prefix_len test kinds
prefix_few test zero kinds = let none : 0 ≤ prefix_len test kinds = omega arith in none
prefix_few test (suc n) [] = let none : 0 ≤ 0 = omega arith in none
prefix_few test (suc n) (kind ∷ kinds) = by (test kind) (prefix_few test n kinds)
  where
    by : (passes : Bool) → prefix_len test (take n kinds) ≤ prefix_len test kinds → cond passes (1 + prefix_len test (take n kinds)) 0 ≤ cond passes (1 + prefix_len test kinds) 0
    by true few = omega (arith, few)
    by false few = omega arith

some_first : (front : List Bool) (asks : Bool) → slice_get front 0 ≡ Some asks → 0 < prefix_len (λ (kind : Bool). beq kind asks) front
some_first [] asks is = absurd cc
some_first (true ∷ front) true is = let one : 0 < 1 + prefix_len (λ (kind : Bool). beq kind true) front = omega arith in one
some_first (false ∷ front) false is = let one : 0 < 1 + prefix_len (λ (kind : Bool). beq kind false) front = omega arith in one
some_first (true ∷ front) false is = let other : Some true ≡ Some false = is in absurd cc
some_first (false ∷ front) true is = let other : Some false ≡ Some true = is in absurd cc

module _ (most : ℕ) (kinds front : List Bool) (front-is : front ≡ take most kinds) where
  pub begins_with : (asks : Bool) (count : ℕ) → slice_get front 0 ≡ Some asks → count ≡ prefix_len (λ (kind : Bool). beq kind asks) front → BeginsWith asks count kinds
  begins_with asks count first count-is = record {
    alike = omega (arith, count-is, ap (prefix_len (λ (kind : Bool). beq kind asks)) front-is, prefix_few (λ (kind : Bool). beq kind asks) most kinds);
    some = omega (arith, count-is, some_first front asks first);
  }

-- none is left where none stands first
pub none_first : (most : ℕ) (kinds front : List Bool) → 0 < most → front ≡ take most kinds → slice_get front 0 ≡ None → kinds ≡ []
none_first zero kinds front some is none = absurd (omega (arith, some))
none_first (suc n) [] front some is none = refl
none_first (suc n) (kind ∷ kinds) front some is none = let there : Some kind ≡ None = ap (λ (l : List Bool). slice_get l 0) (sym is) ∙ none in absurd cc
