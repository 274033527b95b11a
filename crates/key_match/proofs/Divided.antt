-- Whether some division of a text has parts of a kind is told by a test, and so is each fact that the functions speak of.
use Rattle.std.proofs.Common.{◌≡◌, ℕ, List, [], ◌∷◌, ◌++◌, IsTrue, Option, None, Some, MatchOption, take, refl, sym, ap, subst, ◌∙◌}
use Rattle.std.specs.List.{concat}
use Rattle.std.proofs.lemmas.Bool.{false≢true}
use Rattle.std.proofs.lemmas.Slice.Eq.{bytes_eq-Decides}
use Rattle.key_match.specs.Pieces.{Piece, One, Segment, Stretch, Rest, StandsFor, Divides, Covers}
use Rattle.key_match.specs.Stars.{AgreesToStar, star_of}
use Rattle.key_match.specs.Divisions.{has_name}
use Rattle.key_match.specs.Names.{EachNamed, NamesAgree, CoversAlike}
use Rattle.key_match.specs.Helps.Fits.{pieces_fit}
use Rattle.key_match.proofs.Covers.{Covers-from_fits, fits-from_Covers}
use Rattle.key_match.proofs.First.{stands, stands-from, from-stands}
use Rattle.key_match.proofs.Decided.{Decided, decided_by, decided_true, decided_false, decided_and, decided_where, same_text, HasHalves, halves_decided}

pub star_decided : (key pattern : List ℕ) → Decided (AgreesToStar key pattern)
star_decided key pattern = go (star_of pattern)
  where
    go : (star : Option ℕ) → Decided (MatchOption star (key ≡ pattern) (λ star. take star pattern ≡ take star key))
    go None = same_text key pattern
    go (Some star) = same_text (take star pattern) (take star key)

pub covers_decided : (pieces : List Piece) (text : List ℕ) → Decided (Covers pieces text)
covers_decided pieces text = (pieces_fit pieces text, (Covers-from_fits pieces text, fits-from_Covers pieces text))

-- ---- a division of a kind

abbrev HasDivision : List Piece → (List (List ℕ) → Type 0) → List ℕ → Type 0
HasDivision pieces P text = (parts : List (List ℕ)) × Divides pieces text parts × P parts

-- a first part, and a division of what is left
abbrev FirstAnd : Piece → List Piece → (List (List ℕ) → Type 0) → List ℕ → List ℕ → Type 0
FirstAnd piece pieces P front back = StandsFor piece front × HasDivision pieces (λ parts. P (front ∷ parts)) back

division_none : (P : List (List ℕ) → Type 0) → HasDivision [] P [] → P []
division_none P h = go h.0 h.1 h.2
  where
    go : (parts : List (List ℕ)) → Divides [] [] parts → P parts → P []
    go [] divides p = p
    go (part ∷ parts) divides p = absurd divides.each

no_division : (P : List (List ℕ) → Type 0) (x : ℕ) (text : List ℕ) → HasDivision [] P (x ∷ text) → ⊥
no_division P x text h = go h.0 h.1
  where
    go : (parts : List (List ℕ)) → Divides [] (x ∷ text) parts → ⊥
    go [] divides = let e : [] ≡ x ∷ text = divides.whole in cc
    go (part ∷ parts) divides = divides.each

division_first : (piece : Piece) (pieces : List Piece) (P : List (List ℕ) → Type 0) (text : List ℕ) → HasHalves (FirstAnd piece pieces P) text → HasDivision (piece ∷ pieces) P text
division_first piece pieces P text h =
    let after = h.3.1 in
    (h.0 ∷ after.0, record { whole = ap (λ xs. h.0 ++ xs) after.1.whole ∙ sym h.2; each = (h.3.0, after.1.each) }, after.2)

first_division : (piece : Piece) (pieces : List Piece) (P : List (List ℕ) → Type 0) (text : List ℕ) → HasDivision (piece ∷ pieces) P text → HasHalves (FirstAnd piece pieces P) text
first_division piece pieces P text h = go h.0 h.1 h.2
  where
    go : (parts : List (List ℕ)) → Divides (piece ∷ pieces) text parts → P parts → HasHalves (FirstAnd piece pieces P) text
    go [] divides p = absurd divides.each
    go (part ∷ parts) divides p = (part, concat parts, sym divides.whole, (divides.each.0, (parts, record { whole = refl; each = divides.each.1 }, p)))

division_decided : (pieces : List Piece) (P : List (List ℕ) → Type 0) → ((parts : List (List ℕ)) → Decided (P parts)) → (text : List ℕ) → Decided (HasDivision pieces P text)
division_decided [] P each [] =
    decided_by (P []) (HasDivision [] P []) (λ p. ([], record { whole = refl; each = tt }, p)) (division_none P) (each [])
division_decided [] P each (x ∷ text) = decided_false (HasDivision [] P (x ∷ text)) (no_division P x text)
division_decided (piece ∷ pieces) P each text =
    let after : List ℕ → List (List ℕ) → Type 0 = λ front parts. P (front ∷ parts) in
    decided_by (HasHalves (FirstAnd piece pieces P) text) (HasDivision (piece ∷ pieces) P text) (division_first piece pieces P text) (first_division piece pieces P text)
    (halves_decided (FirstAnd piece pieces P)
    (λ front back. decided_and (StandsFor piece front) (HasDivision pieces (after front) back) (stands piece front, (from-stands piece front, stands-from piece front)) (division_decided pieces (after front) (λ parts. each (front ∷ parts)) back))
    text)

-- ---- equal names

each_decided : (name part : List ℕ) (pieces : List Piece) (parts : List (List ℕ)) → Decided (EachNamed name part pieces parts)
each_decided name part [] parts = decided_true (EachNamed name part [] parts) tt
each_decided name part (piece ∷ pieces) [] = decided_true (EachNamed name part (piece ∷ pieces) []) tt
each_decided name part (piece ∷ pieces) (found ∷ parts) =
    decided_and (IsTrue (has_name name piece) → found ≡ part) (EachNamed name part pieces parts)
    (decided_where (has_name name piece) (found ≡ part) (same_text found part)) (each_decided name part pieces parts)

abbrev FirstAgrees : Piece → List ℕ → List Piece → List (List ℕ) → Type 0
FirstAgrees piece part pieces parts = (name : List ℕ) → IsTrue (has_name name piece) → EachNamed name part pieces parts

first_decided : (piece : Piece) (part : List ℕ) (pieces : List Piece) (parts : List (List ℕ)) → Decided (FirstAgrees piece part pieces parts)
first_decided (One bytes) part pieces parts = decided_true (FirstAgrees (One bytes) part pieces parts) (λ name named. absurd (false≢true named))
first_decided (Segment found) part pieces parts =
    decided_by (EachNamed found part pieces parts) (FirstAgrees (Segment found) part pieces parts)
    (λ h name named. subst (λ (n : List ℕ). EachNamed n part pieces parts) ((bytes_eq-Decides found name).0 named) h)
    (λ all. all found ((bytes_eq-Decides found found).1 refl)) (each_decided found part pieces parts)
first_decided Stretch part pieces parts = decided_true (FirstAgrees Stretch part pieces parts) (λ name named. absurd (false≢true named))
first_decided Rest part pieces parts = decided_true (FirstAgrees Rest part pieces parts) (λ name named. absurd (false≢true named))

agree_decided : (pieces : List Piece) (parts : List (List ℕ)) → Decided (NamesAgree pieces parts)
agree_decided [] parts = decided_true (NamesAgree [] parts) tt
agree_decided (piece ∷ pieces) [] = decided_true (NamesAgree (piece ∷ pieces) []) tt
agree_decided (piece ∷ pieces) (part ∷ parts) =
    decided_and (FirstAgrees piece part pieces parts) (NamesAgree pieces parts) (first_decided piece part pieces parts) (agree_decided pieces parts)

pub alike_decided : (pieces : List Piece) (text : List ℕ) → Decided (CoversAlike pieces text)
alike_decided pieces text = division_decided pieces (NamesAgree pieces) (agree_decided pieces) text
