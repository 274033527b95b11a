-- Texts that lie one behind the other in one list of bytes, each told by the place where it ends.
use Rattle.std.specs.Prelude.{◌≡◌, ℕ, ◌-◌, ◌&&◌, nat_le, Bool, true, List, [], ◌∷◌, IsUtf8, Some, drop, length, slice_get, take}

-- the pieces that end at these places, the first of which begins at `from`, and each further one where the last ends
unfoldable pub pieces : List ℕ → (from : ℕ) → (ends : List ℕ) → List (List ℕ)
pieces bytes from [] = []
pieces bytes from (end ∷ ends) = take (end - from) (drop from bytes) ∷ pieces bytes end ends

-- no end is before where its piece begins, or behind this place
unfoldable pub rise : (from most : ℕ) → (ends : List ℕ) → Bool
rise from most [] = true
rise from most (end ∷ ends) = nat_le from end && nat_le end most && rise end most ends

-- the pieces of all the bytes
abbrev pub pieces_of : List ℕ → List ℕ → List (List ℕ)
pieces_of bytes ends = pieces bytes 0 ends

-- the ends are those of pieces of these bytes
abbrev pub AreEnds : List ℕ → List ℕ → Type 0
AreEnds bytes ends = rise 0 (length bytes) ends ≡ true

-- the piece of this number, counted from 1, is not UTF-8
pub record IsBadPiece (bytes ends : List ℕ) (field : ℕ) : Type 0 where
  pub piece : List ℕ
  pub is : slice_get (pieces_of bytes ends) (field - 1) ≡ Some piece
  pub bad : ¬ (IsUtf8 piece)
