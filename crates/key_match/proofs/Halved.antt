-- The last place from which a key fits is found by halving: whether it fits from a place or a later one falls from true to
-- false.
use Rattle.std.proofs.Common.{◌≡◌, ℕ, zero, suc, ◌+◌, ◌-◌, ◌<◌, ◌≤◌, Bool, true, false, List, [], ◌∷◌, length, drop, ap, sym, ◌∙◌, ⊎_elim, arith, length-drop}
use Rattle.std.proofs.lemmas.Bool.{false≢true}
use Rattle.std.proofs.lemmas.List.{drop-drop}
use Rattle.key_match.specs.Pieces.{Piece, Rest}
use Rattle.key_match.specs.Helps.Fits.{end_fits, pieces_fit}
use Rattle.key_match.specs.Helps.Parts.{NoneLater}
use Rattle.key_match.proofs.Bools.{or_cases, or_false, or-false_first, or-false_second}

abbrev Test : Type 0
Test = List ℕ → Bool

-- ---- what fits from a place or a later one

none_at : (f : Test) (text : List ℕ) → end_fits f text ≡ false → (n : ℕ) → n ≤ length text → f (drop n text) ≡ false
none_at f [] none zero within = none
none_at f [] none (suc n) within = absurd (omega arith)
none_at f (b ∷ text) none zero within = or-false_first (f (b ∷ text)) (end_fits f text) none
none_at f (b ∷ text) none (suc n) within = none_at f text (or-false_second (f (b ∷ text)) (end_fits f text) none) n (omega arith)

none_from : (f : Test) (text : List ℕ) → ((n : ℕ) → n ≤ length text → f (drop n text) ≡ false) → end_fits f text ≡ false
none_from f [] none = none zero (omega arith)
none_from f (b ∷ text) none =
    or_false (f (b ∷ text)) (end_fits f text) (none zero (omega arith)) ∙ none_from f text (λ n within. none (suc n) (omega arith))

-- a text that fits from a place on, and from no later one, fits from its start
fits_here : (f : Test) (text : List ℕ) → end_fits f text ≡ true → ((n : ℕ) → 0 < n → n ≤ length text → f (drop n text) ≡ false) → f text ≡ true
fits_here f [] fits none = fits
fits_here f (b ∷ text) fits none =
    ⊎_elim (λ here. here)
    (λ later. absurd (false≢true (sym (none_from f text (λ n within. none (suc n) (omega arith) (omega arith))) ∙ later)))
    (or_cases (f (b ∷ text)) (end_fits f text) fits)

-- the same by places of a key
drop_from : (key : List ℕ) (from end : ℕ) → from ≤ end → drop (end - from) (drop from key) ≡ drop end key
drop_from key from end after =
    let there : from + (end - from) ≡ end = omega arith in
    drop-drop (end - from) from key ∙ ap (λ (n : ℕ). drop n key) there

none_behind : (f : Test) (key : List ℕ) (from end : ℕ) → end_fits f (drop from key) ≡ false → from ≤ end → end ≤ length key → f (drop end key) ≡ false
none_behind f key from end none after within =
    ap f (sym (drop_from key from end after)) ∙ none_at f (drop from key) none (end - from) (omega (arith, length-drop from key))

fits_last : (f : Test) (key : List ℕ) (from : ℕ) → from ≤ length key → end_fits f (drop from key) ≡ true
    → ((end : ℕ) → from < end → end ≤ length key → f (drop end key) ≡ false) → f (drop from key) ≡ true
fits_last f key from inside fits none = fits_here f (drop from key) fits later
  where
    later : (n : ℕ) → 0 < n → n ≤ length (drop from key) → f (drop n (drop from key)) ≡ false
    later n some within = ap f (drop-drop n from key) ∙ none (from + n) (omega arith) (omega (arith, length-drop from key))

-- ---- halving

-- the key fits from `low` or a later place, where that is not the first one, and from none past `high`
pub record IsHalved (pieces : List Piece) (key : List ℕ) (least most low high : ℕ) : Type 0 where
  pub from_least : least ≤ low
  pub ordered : low ≤ high
  pub to_most : high ≤ most
  pub later : (end : ℕ) → high < end → end ≤ most → pieces_fit pieces (drop end key) ≡ false
  pub fits : least < low → pieces_fit (Rest ∷ pieces) (drop low key) ≡ true

pub halved_start : (pieces : List Piece) (key : List ℕ) (least most : ℕ) → least ≤ most → IsHalved pieces key least most least most
halved_start pieces key least most ordered = record {
  from_least = omega arith;
  ordered = ordered;
  to_most = omega arith;
  later = λ end past within. absurd (omega arith);
  fits = λ some. absurd (omega arith);
}

pub halved_up : (pieces : List Piece) (key : List ℕ) (least most low high middle : ℕ) → IsHalved pieces key least most low high → low ≤ middle → middle ≤ high
    → pieces_fit (Rest ∷ pieces) (drop middle key) ≡ true → IsHalved pieces key least most middle high
halved_up pieces key least most low high middle halved above below fits = record {
  from_least = omega (arith, halved.from_least);
  ordered = below;
  to_most = halved.to_most;
  later = halved.later;
  fits = λ some. fits;
}

pub halved_down : (pieces : List Piece) (key : List ℕ) (least most low high middle : ℕ) → IsHalved pieces key least most low high → most ≡ length key → low < middle → middle ≤ high
    → pieces_fit (Rest ∷ pieces) (drop middle key) ≡ false → IsHalved pieces key least most low (middle - 1)
halved_down pieces key least most low high middle halved whole above below misses = record {
  from_least = halved.from_least;
  ordered = omega arith;
  to_most = omega (arith, halved.to_most);
  later = λ end past within. none_behind (pieces_fit pieces) key middle end misses (omega arith) (omega arith);
  fits = halved.fits;
}

pub halved_last : (pieces : List Piece) (key : List ℕ) (least most low high : ℕ) → IsHalved pieces key least most low high → high ≤ low → NoneLater pieces key least most low
halved_last pieces key least most low high halved met = record {
  from_least = halved.from_least;
  to_most = omega (arith, halved.ordered, halved.to_most);
  later = λ end past within. halved.later end (omega arith) within;
}

pub halved_fits : (pieces : List Piece) (key : List ℕ) (least most low high : ℕ) → IsHalved pieces key least most low high → high ≤ low → most ≡ length key
    → least < low → pieces_fit pieces (drop low key) ≡ true
halved_fits pieces key least most low high halved met whole some =
    fits_last (pieces_fit pieces) key low (omega (arith, halved.ordered, halved.to_most)) (halved.fits some)
    (λ end past within. halved.later end (omega arith) (omega arith))
