-- A name has exactly one part.
use Rattle.std.proofs.Common.{◌≡◌, ◌<◌, ◌≤◌, ℕ, Bool, true, false, ◌⊎◌, inl, inr, List, [], ◌∷◌, ◌++◌, length, refl, sym, ap, ◌∙◌, arith}
use Rattle.std.specs.List.{concat}
use Rattle.std.proofs.lemmas.Bool.{false≢true, cases_lt}
use Rattle.key_match.specs.Pieces.{Piece, One, Segment, Stretch, Rest, EachStandsFor}
use Rattle.key_match.specs.Divisions.{IsFirstDivision, IsNamedPart, GoesBefore, part_named}
use Rattle.key_match.specs.Helps.Fits.{pieces_fit}
use Rattle.key_match.specs.Helps.Parts.{order_of}
use Rattle.key_match.specs.declared.part.Choice.{Choice}
use Rattle.key_match.specs.declared.part.Choice.TheVariants.{Longest, Shortest}
use Rattle.key_match.proofs.Covers.{fits-from_Covers}
use Rattle.key_match.proofs.First.{first_exists}

-- a part is there
pub named_there : (segments : Choice) (pieces : List Piece) (key name : List ℕ) → (found : List ℕ) × IsNamedPart (order_of segments) pieces key name found
named_there segments pieces key name = go (pieces_fit pieces key) refl
  where
    go : (b : Bool) → pieces_fit pieces key ≡ b → (found : List ℕ) × IsNamedPart (order_of segments) pieces key name found
    go true h =
        let first = first_exists segments pieces key 0 (omega arith) h in
        (part_named name pieces first.0, inl (first.0, first.1, refl))
    go false h = ([], inr (λ covers. false≢true (sym h ∙ fits-from_Covers pieces key covers), refl))

-- parts of different lengths: one goes before the other
one_before : (segments : Choice) (piece : Piece) (one other : ℕ) → one < other → order_of segments piece one other ⊎ order_of segments piece other one
one_before Longest piece one other h = inr h
one_before Shortest (One bytes) one other h = inr h
one_before Shortest (Segment name) one other h = inl h
one_before Shortest Stretch one other h = inr h
one_before Shortest Rest one other h = inr h

same_length : (segments : Choice) (piece : Piece) (one other : ℕ) → ¬ order_of segments piece one other → ¬ order_of segments piece other one → one ≡ other
same_length segments piece one other h k = go (cases_lt one other) (cases_lt other one)
  where
    apart : (order_of segments piece one other ⊎ order_of segments piece other one) → ⊥
    apart (inl before) = h before
    apart (inr before) = k before

    swapped : (order_of segments piece other one ⊎ order_of segments piece one other) → ⊥
    swapped (inl before) = k before
    swapped (inr before) = h before

    go : ((one < other) ⊎ (other ≤ one)) → ((other < one) ⊎ (one ≤ other)) → one ≡ other
    go (inl lt) more = absurd (apart (one_before segments piece one other lt))
    go (inr le) (inl lt) = absurd (swapped (one_before segments piece other one lt))
    go (inr le) (inr ge) = omega arith

same_front : (front other back rest : List ℕ) → length front ≡ length other → front ++ back ≡ other ++ rest → (front ≡ other) × (back ≡ rest)
same_front [] [] back rest h e = (refl, e)
same_front [] (y ∷ other) back rest h e = absurd (omega arith)
same_front (x ∷ front) [] back rest h e = absurd (omega arith)
same_front (x ∷ front) (y ∷ other) back rest h e =
    let after = same_front front other back rest (omega arith) cc in
    let first : x ≡ y = cc in
    (cc (first, after.0), after.1)

-- of two divisions of which neither goes before the other, both are the same
same_parts : (segments : Choice) (pieces : List Piece) (parts others : List (List ℕ)) → EachStandsFor pieces parts → EachStandsFor pieces others → concat parts ≡ concat others → ¬ GoesBefore (order_of segments) pieces parts others → ¬ GoesBefore (order_of segments) pieces others parts → parts ≡ others
same_parts segments [] [] [] h k e before after = refl
same_parts segments [] [] (other ∷ others) h k e before after = absurd k
same_parts segments [] (part ∷ parts) others h k e before after = absurd h
same_parts segments (piece ∷ pieces) [] others h k e before after = absurd h
same_parts segments (piece ∷ pieces) (part ∷ parts) [] h k e before after = absurd k
same_parts segments (piece ∷ pieces) (part ∷ parts) (other ∷ others) h k e before after =
    let long = same_length segments piece (length part) (length other) (λ first. before (inl first)) (λ first. after (inl first)) in
    let fronts = same_front part other (concat parts) (concat others) long e in
    let rest = same_parts segments pieces parts others h.1 k.1 fronts.1 (λ later. before (inr (long, later))) (λ later. after (inr (sym long, later))) in
    cc (fronts.0, rest)

same_division : (segments : Choice) (pieces : List Piece) (key : List ℕ) (parts others : List (List ℕ)) → IsFirstDivision (order_of segments) pieces key parts → IsFirstDivision (order_of segments) pieces key others → parts ≡ others
same_division segments pieces key parts others h k =
    same_parts segments pieces parts others h.divides.each k.divides.each (h.divides.whole ∙ sym k.divides.whole) (k.first parts h.divides) (h.first others k.divides)

pub named_unique : (segments : Choice) (pieces : List Piece) (key name found other : List ℕ) → IsNamedPart (order_of segments) pieces key name found → IsNamedPart (order_of segments) pieces key name other → found ≡ other
named_unique segments pieces key name found other (inl h) (inl k) =
    h.2 ∙ ap (part_named name pieces) (same_division segments pieces key h.0 k.0 h.1 k.1) ∙ sym k.2
named_unique segments pieces key name found other (inl h) (inr k) = absurd (k.0 (h.0, h.1.divides))
named_unique segments pieces key name found other (inr h) (inl k) = absurd (h.0 (k.0, k.1.divides))
named_unique segments pieces key name found other (inr h) (inr k) = h.1 ∙ sym k.1
