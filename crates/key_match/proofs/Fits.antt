-- What the matcher's loops keep.
use Rattle.std.proofs.Common.{◌≡◌, ◌≤◌, ℕ, List, ◌∷◌, length, drop}
use Rattle.key_match.specs.Pieces.{Stretch, Rest}
use Rattle.key_match.specs.Helps.Fits.{LeadsTo, pieces_from, pieces_fit}
use Rattle.key_match.specs.declared.token.Dialect.{Dialect}
use Rattle.key_match.specs.declared.fit.Place.{Place}

-- matched byte by byte so far
pub record IsOn (dialect : Dialect) (pattern key : List ℕ) (from at : Place) : Type 0 where
  pub leads : LeadsTo (pieces_from dialect pattern from) (drop from.key key) (pieces_from dialect pattern at) (drop at.key key)
  pub pattern_from : from.pattern ≤ at.pattern
  pub key_from : from.key ≤ at.key
  pub key_within : at.key ≤ length key

-- tried again from the latest stretch
pub record IsOnStretch (dialect : Dialect) (pattern key : List ℕ) (from at : Place) : Type 0 where
  pub leads : LeadsTo (Stretch ∷ pieces_from dialect pattern from) (drop from.key key) (Stretch ∷ pieces_from dialect pattern at) (drop at.key key)
  pub pattern_from : from.pattern ≤ at.pattern
  pub key_from : from.key ≤ at.key
  pub key_within : at.key ≤ length key

-- tried again from the latest rest
pub record IsOnRest (dialect : Dialect) (pattern key : List ℕ) (from at : Place) : Type 0 where
  pub same : pieces_fit (Rest ∷ pieces_from dialect pattern from) (drop from.key key) ≡ pieces_fit (Rest ∷ pieces_from dialect pattern at) (drop at.key key)
  pub key_within : at.key ≤ length key
