-- Where the part of a piece may end, and which end is chosen.
use Rattle.std.proofs.Common.{◌≡◌, ◌≢◌, ℕ, zero, suc, ◌+◌, ◌-◌, ◌<◌, ◌≤◌, Bool, true, false, ◌&&◌, List, [], ◌∷◌, ◌++◌, length, take, drop, refl, ap, sym, ◌∙◌, subst, ⊎_elim, arith, length-append, length-drop}
use Rattle.std.specs.List.{concat, list_all, prefix_len}
use Rattle.std.proofs.lemmas.Bool.{false≢true, cases_lt}
use Rattle.std.proofs.lemmas.List.{drop-drop, take_all, take-append-le, take-append-drop, length-take-le}
use Rattle.std.proofs.Math.Seq.{drop-append_seam}
use Rattle.key_match.specs.Pieces.{ByteSet, Piece, One, Segment, Stretch, has, not_slash, is_one, StandsFor, Divides}
use Rattle.key_match.specs.Divisions.{Order, GoesBefore, IsFirstDivision}
use Rattle.key_match.specs.Helps.Fits.{pieces_fit}
use Rattle.key_match.specs.Helps.Parts.{part_between, HasPart, AreEnds, NoneLater, NoneEarlier, IsChosen}
use Rattle.key_match.specs.declared.part.Ends.{Ends}
use Rattle.key_match.proofs.Bools.{and_both, and_first, and_second}
use Rattle.key_match.proofs.Covers.{split-piece, fits-each}

-- ---- fronts of a text

plain_take : (t : List ℕ) (n : ℕ) → n ≤ length t → list_all not_slash (take n t) ≡ true → n ≤ prefix_len not_slash t
plain_take t zero h k = omega arith
plain_take [] (suc n) h k = absurd (omega arith)
plain_take (b ∷ t) (suc n) h k =
    let plain : not_slash b ≡ true = and_first (not_slash b) _ k in
    let after : n ≤ prefix_len not_slash t = plain_take t n (omega arith) (and_second (not_slash b) _ k) in
    rw plain (omega arith)

take_plain : (t : List ℕ) (n : ℕ) → n ≤ prefix_len not_slash t → list_all not_slash (take n t) ≡ true
take_plain t zero h = refl
take_plain [] (suc n) h = refl
take_plain (b ∷ t) (suc n) h = go (take_plain t n) (not_slash b) refl
  where
    go : (n ≤ prefix_len not_slash t → list_all not_slash (take n t) ≡ true) → (v : Bool) → not_slash b ≡ v → (not_slash b && list_all not_slash (take n t)) ≡ true
    go after true plain =
        let long : suc n ≤ 1 + prefix_len not_slash t = rw plain at h in
        and_both (not_slash b) _ plain (after (omega arith))
    go after false slash =
        let short : suc n ≤ 0 = rw slash at h in
        absurd (omega arith)

one_take : (test : ℕ → Bool) (t : List ℕ) (n : ℕ) → n ≤ length t → is_one test (take n t) ≡ true → n ≡ 1
one_take test t zero h k = absurd (false≢true k)
one_take test [] (suc n) h k = absurd (omega arith)
one_take test (b ∷ t) (suc zero) h k = refl
one_take test (b ∷ []) (suc (suc n)) h k = absurd (omega arith)
one_take test (b ∷ c ∷ t) (suc (suc n)) h k = absurd (false≢true k)

some_take : (t : List ℕ) (n : ℕ) → 0 < n → n ≤ length t → take n t ≢ []
some_take t zero p h = λ e. omega arith
some_take [] (suc n) p h = λ e. omega arith
some_take (b ∷ t) (suc n) p h = λ e. cc

take_some : (t : List ℕ) (n : ℕ) → take n t ≢ [] → 0 < n
take_some t zero h = absurd (h refl)
take_some t (suc n) h = omega arith

take-front : (xs ys : List ℕ) → take (length xs) (xs ++ ys) ≡ xs
take-front xs ys = take-append-le (length xs) xs ys (omega arith) ∙ take_all (length xs) xs (omega arith)

-- ---- the ends of a piece's part

pub AreEnds-one : (bytes : ByteSet) (key : List ℕ) (from : ℕ) → HasPart (One bytes) key from → AreEnds (One bytes) key from (record { least = from + 1; most = from + 1 })
AreEnds-one bytes key from h =
    let t = drop from key in
    let single : h.0 - from ≡ 1 = one_take (has bytes) t (h.0 - from) (omega (arith, length-drop {A = ℕ}, h.1, h.2)) h.3 in
    let e : h.0 ≡ from + 1 = omega (arith, h.1) in
    record {
      from_least = omega arith;
      ordered = omega arith;
      within = omega (arith, h.2);
      all = λ end low high.
          let same : h.0 ≡ end = omega arith in
          subst (λ (x : ℕ). StandsFor (One bytes) (part_between key from x)) same h.3;
      only = λ end low high stands.
          let other : end - from ≡ 1 = one_take (has bytes) t (end - from) (omega (arith, length-drop {A = ℕ})) stands in
          (omega arith, omega arith);
    }

pub AreEnds-segment : (name key : List ℕ) (from most : ℕ) → most ≡ from + prefix_len not_slash (drop from key) → most ≤ length key → HasPart (Segment name) key from → AreEnds (Segment name) key from (record { least = from + 1; most = most })
AreEnds-segment name key from most e within h =
    let t = drop from key in
    let some : 0 < h.0 - from = take_some t (h.0 - from) h.3.0 in
    let plain : h.0 - from ≤ prefix_len not_slash t = plain_take t (h.0 - from) (omega (arith, length-drop {A = ℕ}, h.1, h.2)) h.3.1 in
    record {
      from_least = omega arith;
      ordered = omega arith;
      within = within;
      all = λ end low high. (some_take t (end - from) (omega arith) (omega (arith, length-drop {A = ℕ})), take_plain t (end - from) (omega arith));
      only = λ end low high stands.
          let more : 0 < end - from = take_some t (end - from) stands.0 in
          let less : end - from ≤ prefix_len not_slash t = plain_take t (end - from) (omega (arith, length-drop {A = ℕ})) stands.1 in
          (omega arith, omega arith);
    }

pub AreEnds-stretch : (key : List ℕ) (from most : ℕ) → most ≡ from + prefix_len not_slash (drop from key) → most ≤ length key → AreEnds Stretch key from (record { least = from; most = most })
AreEnds-stretch key from most e within =
    let t = drop from key in
    record {
      from_least = omega arith;
      ordered = omega arith;
      within = within;
      all = λ end low high. take_plain t (end - from) (omega arith);
      only = λ end low high stands.
          let less : end - from ≤ prefix_len not_slash t = plain_take t (end - from) (omega (arith, length-drop {A = ℕ})) stands in
          (low, omega arith);
    }

-- ---- the chosen end

-- a part for the piece with which the rest fits
abbrev pub HasFit : Piece → List Piece → List ℕ → ℕ → Type 0
HasFit piece pieces key from = (end : ℕ) × (from ≤ end) × (end ≤ length key) × StandsFor piece (part_between key from end) × (pieces_fit pieces (drop end key) ≡ true)

-- a division of what begins at a place, by places
pub record IsCut (key : List ℕ) (from : ℕ) (part rest : List ℕ) (end : ℕ) : Type 0 where
  pub after_from : from ≤ end
  pub within : end ≤ length key
  pub part_is : part_between key from end ≡ part
  pub rest_is : drop end key ≡ rest

pub IsCut-from : (key : List ℕ) (from : ℕ) (part rest : List ℕ) → from ≤ length key → drop from key ≡ part ++ rest → IsCut key from part rest (from + length part)
IsCut-from key from part rest within e =
    let long : length (drop from key) ≡ length part + length rest = ap length e ∙ length-append part rest in
    let n : from + length part - from ≡ length part = omega arith in
    record {
      after_from = omega arith;
      within = omega (arith, length-drop {A = ℕ});
      part_is = ap (λ k. take k (drop from key)) n ∙ ap (take (length part)) e ∙ take-front part rest;
      rest_is = sym (drop-drop (length part) from key) ∙ ap (drop (length part)) e ∙ drop-append_seam part rest;
    }

pub HasFit-from : (piece : Piece) (pieces : List Piece) (key : List ℕ) (from : ℕ) → from ≤ length key → pieces_fit (piece ∷ pieces) (drop from key) ≡ true → HasFit piece pieces key from
HasFit-from piece pieces key from within h =
    let s = split-piece piece (pieces_fit pieces) (drop from key) h in
    let cut = IsCut-from key from s.0 s.1 within s.2 in
    (from + length s.0, cut.after_from, cut.within, subst (StandsFor piece) (sym cut.part_is) s.3, ap (pieces_fit pieces) cut.rest_is ∙ s.4)

pub HasPart-from : (piece : Piece) (pieces : List Piece) (key : List ℕ) (from : ℕ) → from ≤ length key → pieces_fit (piece ∷ pieces) (drop from key) ≡ true → HasPart piece key from
HasPart-from piece pieces key from within h =
    let fit = HasFit-from piece pieces key from within h in
    (fit.0, fit.1, fit.2, fit.3)

-- an end with which the rest fits, if it does with some end, and before which no other goes with which it does
chosen_among : (order : Order) (piece : Piece) (pieces : List Piece) (key : List ℕ) (from found : ℕ) (ends : Ends) → from ≤ length key → pieces_fit (piece ∷ pieces) (drop from key) ≡ true → AreEnds piece key from ends → ends.least ≤ found → found ≤ ends.most
    → ((end : ℕ) → ends.least ≤ end → end ≤ ends.most → pieces_fit pieces (drop end key) ≡ true → pieces_fit pieces (drop found key) ≡ true)
    → ((other : ℕ) → from ≤ other → ends.least ≤ other → other ≤ ends.most → order piece (other - from) (found - from) → pieces_fit pieces (drop other key) ≡ false)
    → IsChosen order piece pieces key from found
chosen_among order piece pieces key from found ends within h are low high fitting others =
    let fit = HasFit-from piece pieces key from within h in
    let among = are.only fit.0 fit.1 fit.2 fit.3 in
    let start = are.from_least in
    let limit = are.within in
    record {
      after_from = omega arith;
      within = omega arith;
      stands = are.all found low high;
      rest = fitting fit.0 among.0 among.1 fit.4;
      first = λ other above below stands rest before.
          let inside = are.only other above below stands in
          false≢true (sym (others other above inside.0 inside.1 before) ∙ rest);
    }

pub IsChosen-last : (order : Order) (piece : Piece) (pieces : List Piece) (key : List ℕ) (from found : ℕ) (ends : Ends) → ((one other : ℕ) → order piece one other → other < one) → from ≤ length key → pieces_fit (piece ∷ pieces) (drop from key) ≡ true → AreEnds piece key from ends → NoneLater pieces key ends.least ends.most found → (ends.least < found → pieces_fit pieces (drop found key) ≡ true) → IsChosen order piece pieces key from found
IsChosen-last order piece pieces key from found ends longer within h are last fitting =
    chosen_among order piece pieces key from found ends within h are last.from_least last.to_most
    (λ end low high fits_there.
    ⊎_elim fitting
    (λ here.
    ⊎_elim (λ beyond. absurd (false≢true (sym (last.later end beyond high) ∙ fits_there)))
    (λ before. let same : end ≡ found = omega arith in ap (λ k. pieces_fit pieces (drop k key)) (sym same) ∙ fits_there)
    (cases_lt found end))
    (cases_lt ends.least found))
    (λ other above low high before.
    let h = longer (other - from) (found - from) before in
    let begin = are.from_least in
    let start = last.from_least in
    last.later other (omega arith) high)

pub IsChosen-first : (order : Order) (piece : Piece) (pieces : List Piece) (key : List ℕ) (from found : ℕ) (ends : Ends) → ((one other : ℕ) → order piece one other → one < other) → from ≤ length key → pieces_fit (piece ∷ pieces) (drop from key) ≡ true → AreEnds piece key from ends → NoneEarlier pieces key ends.least ends.most found → (found < ends.most → pieces_fit pieces (drop found key) ≡ true) → IsChosen order piece pieces key from found
IsChosen-first order piece pieces key from found ends shorter within h are none fitting =
    chosen_among order piece pieces key from found ends within h are none.from_least none.to_most
    (λ end low high fits_there.
    ⊎_elim (λ before. absurd (false≢true (sym (none.earlier end low before) ∙ fits_there)))
    (λ after. ⊎_elim fitting
    (λ top. let limit = none.to_most in let same : end ≡ found = omega arith in ap (λ k. pieces_fit pieces (drop k key)) (sym same) ∙ fits_there)
    (cases_lt found ends.most))
    (cases_lt end found))
    (λ other above low high before. let h = shorter (other - from) (found - from) before in none.earlier other low (omega arith))

-- ---- the first division

pub IsFirstDivision-cons : (order : Order) (piece : Piece) (pieces : List Piece) (key : List ℕ) (from end : ℕ) (parts : List (List ℕ)) → from ≤ length key → IsChosen order piece pieces key from end → IsFirstDivision order pieces (drop end key) parts → IsFirstDivision order (piece ∷ pieces) (drop from key) (part_between key from end ∷ parts)
IsFirstDivision-cons order piece pieces key from end parts within chosen after =
    let t = drop from key in
    let n = end - from in
    let le = chosen.after_from in
    let top = chosen.within in
    let long : length (take n t) ≡ n = length-take-le n t (omega (arith, length-drop {A = ℕ})) in
    let there : from + n ≡ end = omega arith in
    let left : drop n t ≡ drop end key = drop-drop n from key ∙ ap (λ k. drop k key) there in
    record {
      divides = record {
        whole = ap (λ xs. take n t ++ xs) (after.divides.whole ∙ sym left) ∙ take-append-drop n t;
        each = (chosen.stands, after.divides.each);
      };
      first = go long;
    }
  where
    go : length (part_between key from end) ≡ end - from → (others : List (List ℕ)) → Divides (piece ∷ pieces) (drop from key) others → ¬ GoesBefore order (piece ∷ pieces) others (part_between key from end ∷ parts)
    go long [] divides before = before
    go long (other ∷ others) divides before =
        let cut = IsCut-from key from other (concat others) within (sym divides.whole) in
        let place = from + length other in
        let le = chosen.after_from in
        let rest : pieces_fit pieces (drop place key) ≡ true = ap (pieces_fit pieces) cut.rest_is ∙ fits-each pieces others divides.each.1 in
        let stands = subst (StandsFor piece) (sym cut.part_is) divides.each.0 in
        ⊎_elim
        (λ goes.
        let n : length other ≡ place - from = omega arith in
        let goes' = subst (λ (k : ℕ). order piece k (length (part_between key from end))) n goes in
        let goes'' = subst (λ (k : ℕ). order piece (place - from) k) long goes' in
        chosen.first place cut.after_from cut.within stands rest goes'')
        (λ later.
        let same : place ≡ end = let alike = later.0 in omega arith in
        after.first others (record { whole = sym cut.rest_is ∙ ap (λ k. drop k key) same; each = divides.each.1 }) later.1)
        before
