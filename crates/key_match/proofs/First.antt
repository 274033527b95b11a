-- Where the key fits there is a first division.
use Rattle.std.proofs.Common.{◌≡◌, ◌≢◌, ℕ, zero, suc, ◌+◌, ◌-◌, ◌<◌, ◌≤◌, Bool, true, false, ◌&&◌, ◌⊎◌, inl, inr, List, [], ◌∷◌, length, drop, refl, ap, sym, ◌∙◌, ⊎_elim, arith}
use Rattle.std.specs.List.{list_all}
use Rattle.std.proofs.lemmas.Bool.{false≢true}
use Rattle.key_match.specs.Pieces.{Piece, One, Segment, Stretch, Rest, has, not_slash, is_one, StandsFor}
use Rattle.key_match.specs.Patterns.{is_some_text}
use Rattle.key_match.specs.Divisions.{IsFirstDivision}
use Rattle.key_match.specs.Helps.Fits.{pieces_fit}
use Rattle.key_match.specs.Helps.Parts.{order_of, part_between, IsChosen}
use Rattle.key_match.specs.declared.part.Choice.{Choice}
use Rattle.key_match.specs.declared.part.Choice.TheVariants.{Longest, Shortest}
use Rattle.key_match.proofs.Bools.{and_both, and_first, and_second}
use Rattle.key_match.proofs.Parts.{HasFit-from, IsFirstDivision-cons}

-- ---- the greatest and the least number that passes a test

greatest : (test : ℕ → Bool) (top some : ℕ) → some ≤ top → test some ≡ true → (n : ℕ) × (n ≤ top) × (test n ≡ true) × ((m : ℕ) → m ≤ top → test m ≡ true → m ≤ n)
greatest test zero some le h =
    let e : some ≡ 0 = omega arith in
    (0, omega arith, ap test (sym e) ∙ h, λ m low k. low)
greatest test (suc top) some le h = go (greatest test top) (test (suc top)) refl
  where
    go : ((s : ℕ) → s ≤ top → test s ≡ true → (n : ℕ) × (n ≤ top) × (test n ≡ true) × ((m : ℕ) → m ≤ top → test m ≡ true → m ≤ n)) → (v : Bool) → test (suc top) ≡ v → (n : ℕ) × (n ≤ suc top) × (test n ≡ true) × ((m : ℕ) → m ≤ suc top → test m ≡ true → m ≤ n)
    go below true e = (suc top, omega arith, e, λ m low k. low)
    go below false e =
        let other : (m : ℕ) → test m ≡ true → m ≢ suc top = λ m k same. false≢true (sym e ∙ ap test (sym same) ∙ k) in
        let ne = other some h in
        let found = below some (omega arith) h in
        (found.0, omega (arith, found.1), found.2, λ m low k. let ne' = other m k in found.3 m (omega arith) k)

least : (some : ℕ) (test : ℕ → Bool) → test some ≡ true → (n : ℕ) × (n ≤ some) × (test n ≡ true) × ((m : ℕ) → test m ≡ true → n ≤ m)
least zero test h = (0, omega arith, h, λ m k. omega arith)
least (suc some) test h = go (least some (λ n. test (suc n)) h) (test 0) refl
  where
    go : (n : ℕ) × (n ≤ some) × (test (suc n) ≡ true) × ((m : ℕ) → test (suc m) ≡ true → n ≤ m) → (v : Bool) → test 0 ≡ v → (n : ℕ) × (n ≤ suc some) × (test n ≡ true) × ((m : ℕ) → test m ≡ true → n ≤ m)
    go above true e = (0, omega arith, e, λ m k. omega arith)
    go above false e = (suc above.0, omega (arith, above.1), above.2, above_zero)
      where
        above_zero : (m : ℕ) → test m ≡ true → suc above.0 ≤ m
        above_zero zero k = absurd (false≢true (sym e ∙ k))
        above_zero (suc m) k = omega (arith, above.3 m k)

-- ---- a test of what a piece stands for

pub stands : Piece → List ℕ → Bool
stands (One bytes) part = is_one (has bytes) part
stands (Segment name) part = is_some_text part && list_all not_slash part
stands Stretch part = list_all not_slash part
stands Rest part = true

some_text : (part : List ℕ) → part ≢ [] → is_some_text part ≡ true
some_text [] h = absurd (h refl)
some_text (b ∷ part) h = refl

text_some : (part : List ℕ) → is_some_text part ≡ true → part ≢ []
text_some [] h = absurd (false≢true h)
text_some (b ∷ part) h = λ e. cc

pub stands-from : (piece : Piece) (part : List ℕ) → StandsFor piece part → stands piece part ≡ true
unfolding stands
stands-from (One bytes) part h = h
stands-from (Segment name) part h = and_both (is_some_text part) _ (some_text part h.0) h.1
stands-from Stretch part h = h
stands-from Rest part h = refl

pub from-stands : (piece : Piece) (part : List ℕ) → stands piece part ≡ true → StandsFor piece part
unfolding stands
from-stands (One bytes) part h = h
from-stands (Segment name) part h = (text_some part (and_first (is_some_text part) _ h), and_second (is_some_text part) _ h)
from-stands Stretch part h = h
from-stands Rest part h = tt

-- ---- the first division

-- longer parts go before shorter ones, or the other way round
order_kind : (segments : Choice) (piece : Piece) → ((one other : ℕ) → order_of segments piece one other → one < other) ⊎ ((one other : ℕ) → order_of segments piece one other → other < one)
order_kind Longest piece = inr (λ one other h. h)
order_kind Shortest (One bytes) = inr (λ one other h. h)
order_kind Shortest (Segment name) = inl (λ one other h. h)
order_kind Shortest Stretch = inr (λ one other h. h)
order_kind Shortest Rest = inr (λ one other h. h)

-- a part of this length stands for the piece, and the rest fits
cuts : Piece → List Piece → List ℕ → ℕ → ℕ → Bool
cuts piece pieces key from n = stands piece (part_between key from (from + n)) && pieces_fit pieces (drop (from + n) key)

cuts-at : (piece : Piece) (pieces : List Piece) (key : List ℕ) (from end : ℕ) → from ≤ end → StandsFor piece (part_between key from end) → pieces_fit pieces (drop end key) ≡ true → cuts piece pieces key from (end - from) ≡ true
unfolding cuts
cuts-at piece pieces key from end le h k =
    let same : from + (end - from) ≡ end = omega arith in
    rw same (and_both (stands piece (part_between key from end)) _ (stands-from piece (part_between key from end) h) k)

chosen : (segments : Choice) (piece : Piece) (pieces : List Piece) (key : List ℕ) (from n : ℕ) → from + n ≤ length key → cuts piece pieces key from n ≡ true → ((other : ℕ) → from ≤ other → other ≤ length key → StandsFor piece (part_between key from other) → pieces_fit pieces (drop other key) ≡ true → ¬ order_of segments piece (other - from) (from + n - from)) → IsChosen (order_of segments) piece pieces key from (from + n)
unfolding cuts
chosen segments piece pieces key from n top h none = record {
  after_from = omega arith;
  within = top;
  stands = from-stands piece (part_between key from (from + n)) (and_first (stands piece (part_between key from (from + n))) _ h);
  rest = and_second (stands piece (part_between key from (from + n))) _ h;
  first = none;
}

pub chosen_exists : (segments : Choice) (piece : Piece) (pieces : List Piece) (key : List ℕ) (from : ℕ) → from ≤ length key → pieces_fit (piece ∷ pieces) (drop from key) ≡ true → (end : ℕ) × IsChosen (order_of segments) piece pieces key from end
chosen_exists segments piece pieces key from within h =
    let fit = HasFit-from piece pieces key from within h in
    let some : cuts piece pieces key from (fit.0 - from) ≡ true = cuts-at piece pieces key from fit.0 fit.1 fit.3 fit.4 in
    ⊎_elim
    (λ shorter.
    let found = least (fit.0 - from) (cuts piece pieces key from) some in (
      from + found.0,
      chosen segments piece pieces key from found.0 (omega (arith, fit.1, fit.2, found.1)) found.2
          (λ other above below stands rest before.
          let close = shorter (other - from) (from + found.0 - from) before in
          let far = found.3 (other - from) (cuts-at piece pieces key from other above stands rest) in
          omega arith),
    ))
    (λ longer.
    let found = greatest (cuts piece pieces key from) (length key - from) (fit.0 - from) (omega (arith, fit.2)) some in (
      from + found.0,
      chosen segments piece pieces key from found.0 (omega (arith, found.1)) found.2
          (λ other above below stands rest before.
          let far = longer (other - from) (from + found.0 - from) before in
          let close = found.3 (other - from) (omega arith) (cuts-at piece pieces key from other above stands rest) in
          omega arith),
    ))
    (order_kind segments piece)

pub first_exists : (segments : Choice) (pieces : List Piece) (key : List ℕ) (from : ℕ) → from ≤ length key → pieces_fit pieces (drop from key) ≡ true → (parts : List (List ℕ)) × IsFirstDivision (order_of segments) pieces (drop from key) parts
first_exists segments [] key from within h = ([], IsFirstDivision-none segments (drop from key) h)
  where
    IsFirstDivision-none : (segments : Choice) (text : List ℕ) → pieces_fit [] text ≡ true → IsFirstDivision (order_of segments) [] text []
    IsFirstDivision-none segments [] h = record { divides = record { whole = refl; each = tt }; first = λ others divides before. before }
    IsFirstDivision-none segments (b ∷ text) h = absurd (false≢true h)
first_exists segments (piece ∷ pieces) key from within h =
    let end = chosen_exists segments piece pieces key from within h in
    let after = first_exists segments pieces key end.0 end.1.within end.1.rest in
    (part_between key from end.0 ∷ after.0, IsFirstDivision-cons (order_of segments) piece pieces key from end.0 after.0 within end.1 after.1)
