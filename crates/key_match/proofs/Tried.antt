-- The ends of a first part that were tried so far.
use Rattle.std.proofs.Common.{◌≡◌, ℕ, ◌+◌, ◌<◌, ◌≤◌, List, ◌∷◌, length, drop, subst, ⊎_elim, arith}
use Rattle.std.proofs.lemmas.Bool.{cases_lt}
use Rattle.key_match.specs.Pieces.{Piece}
use Rattle.key_match.specs.Helps.Parts.{AreEnds}
use Rattle.key_match.specs.Helps.Given.{CoversGiven, CutsAlike}
use Rattle.key_match.specs.declared.alike.Given.{Given}
use Rattle.key_match.specs.declared.part.Ends.{Ends}
use Rattle.key_match.proofs.Agree.{HasCut-from}

pub record AreTried (given : Given) (piece : Piece) (pieces : List Piece) (key : List ℕ) (from : ℕ) (ends : Ends) (end : ℕ) : Type 0 where
  pub low : ends.least ≤ end
  pub high : end ≤ ends.most
  pub none : (other : ℕ) → ends.least ≤ other → other < end → ¬ CutsAlike given piece pieces key from other

pub AreTried-more : (given : Given) (piece : Piece) (pieces : List Piece) (key : List ℕ) (from end : ℕ) (ends : Ends) → AreTried given piece pieces key from ends end → (end ≡ ends.most → ⊥) → ¬ CutsAlike given piece pieces key from end → AreTried given piece pieces key from ends (end + 1)
AreTried-more given piece pieces key from end ends tried before_last fails = record {
  low = let h = tried.low in omega arith;
  high = let h = tried.high in omega arith;
  none = λ other a b cut.
      ⊎_elim (λ lt. tried.none other a lt cut)
      (λ ge. let same : other ≡ end = omega arith in fails (subst (λ (e : ℕ). CutsAlike given piece pieces key from e) same cut)) (cases_lt other end);
}

pub AreTried-all : (given : Given) (piece : Piece) (pieces : List Piece) (key : List ℕ) (from end : ℕ) (ends : Ends) → from ≤ length key → AreEnds piece key from ends → AreTried given piece pieces key from ends end → end ≡ ends.most → ¬ CutsAlike given piece pieces key from end → ¬ CoversGiven given (piece ∷ pieces) (drop from key)
AreTried-all given piece pieces key from end ends within are tried last fails covers =
    let cut = HasCut-from given piece pieces key from within covers in
    let inside = are.only cut.0 cut.1 cut.2 cut.3 in
    ⊎_elim (λ lt. tried.none cut.0 inside.0 lt cut.4)
    (λ ge. let top = inside.1 in let same : cut.0 ≡ end = omega arith in fails (subst (λ (e : ℕ). CutsAlike given piece pieces key from e) same cut.4)) (cases_lt cut.0 end)
