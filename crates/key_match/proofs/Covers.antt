-- The test from the front tells whether pieces cover a text.
use Rattle.std.proofs.Common.{◌≡◌, ◌≢◌, ℕ, Bool, true, List, [], ◌∷◌, ◌++◌, IsTrue, refl, ap, sym, ◌∙◌, ⊎_elim}
use Rattle.std.specs.List.{concat, list_all}
use Rattle.std.proofs.lemmas.Bool.{false≢true}
use Rattle.key_match.specs.Pieces.{Piece, One, Segment, Stretch, Rest, has, not_slash, is_one, StandsFor, EachStandsFor, Covers}
use Rattle.key_match.specs.Helps.Fits.{byte_fits, stretch_fits, end_fits, piece_fits, pieces_fit}
use Rattle.key_match.proofs.Bools.{or_second, or_cases, and_both, and_first, and_second}
use Rattle.key_match.proofs.Leads.{stretch-here, end-here}

abbrev Test : Type 0
Test = List ℕ → Bool

-- ---- a division passes the test

byte_fits-one : (test : ℕ → Bool) (f : Test) (part rest : List ℕ) → is_one test part ≡ true → f rest ≡ true → byte_fits test f (part ++ rest) ≡ true
byte_fits-one test f [] rest h k = absurd (false≢true h)
byte_fits-one test f (b ∷ []) rest h k = and_both (test b) _ h k
byte_fits-one test f (b ∷ c ∷ part) rest h k = absurd (false≢true h)

stretch_fits-part : (f : Test) (part rest : List ℕ) → list_all not_slash part ≡ true → f rest ≡ true → stretch_fits f (part ++ rest) ≡ true
stretch_fits-part f [] rest h k = stretch-here f rest k
stretch_fits-part f (b ∷ part) rest h k =
    or_second (f (b ∷ (part ++ rest))) _ (and_both (not_slash b) _ (and_first (not_slash b) _ h) (stretch_fits-part f part rest (and_second (not_slash b) _ h) k))

end_fits-part : (f : Test) (part rest : List ℕ) → f rest ≡ true → end_fits f (part ++ rest) ≡ true
end_fits-part f [] rest k = end-here f rest k
end_fits-part f (b ∷ part) rest k = or_second (f (b ∷ (part ++ rest))) _ (end_fits-part f part rest k)

segment_fits-part : (f : Test) (part rest : List ℕ) → part ≢ [] → list_all not_slash part ≡ true → f rest ≡ true → byte_fits not_slash (stretch_fits f) (part ++ rest) ≡ true
segment_fits-part f [] rest some h k = absurd (some refl)
segment_fits-part f (b ∷ part) rest some h k =
    and_both (not_slash b) _ (and_first (not_slash b) _ h) (stretch_fits-part f part rest (and_second (not_slash b) _ h) k)

piece_fits-part : (piece : Piece) (f : Test) (part rest : List ℕ) → StandsFor piece part → f rest ≡ true → piece_fits piece f (part ++ rest) ≡ true
piece_fits-part (One bytes) f part rest h k = byte_fits-one (has bytes) f part rest h k
piece_fits-part (Segment name) f part rest h k = segment_fits-part f part rest h.0 h.1 k
piece_fits-part Stretch f part rest h k = stretch_fits-part f part rest h k
piece_fits-part Rest f part rest h k = end_fits-part f part rest k

pub fits-each : (pieces : List Piece) (parts : List (List ℕ)) → EachStandsFor pieces parts → pieces_fit pieces (concat parts) ≡ true
fits-each [] [] h = refl
fits-each [] (part ∷ parts) h = absurd h
fits-each (piece ∷ pieces) [] h = absurd h
fits-each (piece ∷ pieces) (part ∷ parts) h = piece_fits-part piece (pieces_fit pieces) part (concat parts) h.0 (fits-each pieces parts h.1)

pub fits-from_Covers : (pieces : List Piece) (text : List ℕ) → Covers pieces text → pieces_fit pieces text ≡ true
fits-from_Covers pieces text h = ap (pieces_fit pieces) (sym h.1.whole) ∙ fits-each pieces h.0 h.1.each

-- ---- a text that passes is divided

-- a first part for the piece, and what is left fits
abbrev pub Splits : (List ℕ → Type 0) → Test → List ℕ → Type 0
Splits P f text = (part : List ℕ) × (rest : List ℕ) × (text ≡ part ++ rest) × P part × (f rest ≡ true)

split-byte : (test : ℕ → Bool) (f : Test) (text : List ℕ) → byte_fits test f text ≡ true → Splits (λ part. IsTrue (is_one test part)) f text
split-byte test f [] h = absurd (false≢true h)
split-byte test f (b ∷ text) h = (b ∷ [], text, refl, and_first (test b) _ h, and_second (test b) _ h)

split-stretch : (f : Test) (text : List ℕ) → stretch_fits f text ≡ true → Splits (λ part. IsTrue (list_all not_slash part)) f text
split-stretch f [] h = ([], [], refl, refl, h)
split-stretch f (b ∷ text) h =
    ⊎_elim (λ k. ([], b ∷ text, refl, refl, k))
    (λ k.
    let s = split-stretch f text (and_second (not_slash b) _ k) in
    (b ∷ s.0, s.1, ap (λ xs. b ∷ xs) s.2, and_both (not_slash b) _ (and_first (not_slash b) _ k) s.3, s.4))
    (or_cases (f (b ∷ text)) _ h)

split-end : (f : Test) (text : List ℕ) → end_fits f text ≡ true → Splits (λ part. Unit {0}) f text
split-end f [] h = ([], [], refl, tt, h)
split-end f (b ∷ text) h =
    ⊎_elim (λ k. ([], b ∷ text, refl, tt, k))
    (λ k. let s = split-end f text k in (b ∷ s.0, s.1, ap (λ xs. b ∷ xs) s.2, tt, s.4))
    (or_cases (f (b ∷ text)) _ h)

split-segment : (f : Test) (text : List ℕ) → byte_fits not_slash (stretch_fits f) text ≡ true → Splits (λ part. (part ≢ []) × IsTrue (list_all not_slash part)) f text
split-segment f [] h = absurd (false≢true h)
split-segment f (b ∷ text) h =
    let s = split-stretch f text (and_second (not_slash b) _ h) in
    (b ∷ s.0, s.1, ap (λ xs. b ∷ xs) s.2, (λ e. cc, and_both (not_slash b) _ (and_first (not_slash b) _ h) s.3), s.4)

pub split-piece : (piece : Piece) (f : Test) (text : List ℕ) → piece_fits piece f text ≡ true → Splits (StandsFor piece) f text
split-piece (One bytes) f text h = split-byte (has bytes) f text h
split-piece (Segment name) f text h = split-segment f text h
split-piece Stretch f text h = split-stretch f text h
split-piece Rest f text h = split-end f text h

pub Covers-from_fits : (pieces : List Piece) (text : List ℕ) → pieces_fit pieces text ≡ true → Covers pieces text
Covers-from_fits [] [] h = ([], record { whole = refl; each = tt })
Covers-from_fits [] (b ∷ text) h = absurd (false≢true h)
Covers-from_fits (piece ∷ pieces) text h =
    let s = split-piece piece (pieces_fit pieces) text h in
    let after = Covers-from_fits pieces s.1 s.4 in
    (s.0 ∷ after.0, record { whole = ap (λ xs. s.0 ++ xs) after.1.whole ∙ sym s.2; each = (s.3, after.1.each) })
