-- What is kept while the parts of the first division are taken from the left.
use Rattle.std.proofs.Common.{◌≡◌, ◌≤◌, ℕ, true, false, List, [], ◌∷◌, length, drop, cond, inl, ap, sym, ◌∙◌, subst, arith}
use Rattle.key_match.specs.Pieces.{Piece}
use Rattle.key_match.specs.Helps.Tokens.{pieces_at, pieces_of}
use Rattle.key_match.specs.Helps.Fits.{pieces_fit, pieces_from}
use Rattle.key_match.specs.Divisions.{Order, IsFirstDivision, IsNamedPart, part_named, has_name}
use Rattle.key_match.specs.Helps.Parts.{order_of, part_between, IsChosen}
use Rattle.key_match.specs.declared.token.Dialect.{Dialect}
use Rattle.key_match.specs.declared.fit.Place.{Place}
use Rattle.key_match.specs.declared.part.Choice.{Choice}
use Rattle.key_match.proofs.Readings.{pieces_at-start}
use Rattle.key_match.proofs.Parts.{IsFirstDivision-cons}
use Rattle.key_match.proofs.First.{first_exists}

-- the first division of what is left tells the part of the name
pub record IsSettled (order : Order) (whole : List Piece) (dialect : Dialect) (pattern key name : List ℕ) (at : Place) : Type 0 where
  pub within : at.key ≤ length key
  pub fitting : pieces_fit (pieces_from dialect pattern at) (drop at.key key) ≡ true
  pub tells : (parts : List (List ℕ)) → IsFirstDivision order (pieces_from dialect pattern at) (drop at.key key) parts → IsNamedPart order whole key name (part_named name (pieces_from dialect pattern at) parts)

pub settled_start : (order : Order) (dialect : Dialect) (pattern key name : List ℕ) → pieces_fit (pieces_at dialect pattern 0) key ≡ true → IsSettled order (pieces_of dialect pattern) dialect pattern key name (record { pattern = 0; key = 0 })
settled_start order dialect pattern key name h =
    let e = pieces_at-start dialect pattern in
    record {
      within = omega arith;
      fitting = h;
      tells = λ parts first.
          inl (parts, subst (λ (pieces : List Piece). IsFirstDivision order pieces key parts) e first, ap (λ pieces. part_named name pieces parts) e);
    }

pub settled_step : (order : Order) (whole : List Piece) (piece : Piece) (dialect : Dialect) (pattern key name : List ℕ) (at : Place) (after end : ℕ) → IsSettled order whole dialect pattern key name at → pieces_from dialect pattern at ≡ piece ∷ pieces_at dialect pattern after → IsChosen order piece (pieces_at dialect pattern after) key at.key end → has_name name piece ≡ false → IsSettled order whole dialect pattern key name (record { pattern = after; key = end })
settled_step order whole piece dialect pattern key name at after end settled read chosen other = record {
  within = chosen.within;
  fitting = chosen.rest;
  tells = λ parts first.
      let rest = pieces_at dialect pattern after in
      let part = part_between key at.key end in
      let more = IsFirstDivision-cons order piece rest key at.key end parts settled.within chosen first in
      let told = settled.tells (part ∷ parts) (subst (λ (pieces : List Piece). IsFirstDivision order pieces (drop at.key key) (part ∷ parts)) (sym read) more) in
      let same : part_named name (pieces_from dialect pattern at) (part ∷ parts) ≡ part_named name rest parts =
      ap (λ pieces. part_named name pieces (part ∷ parts)) read ∙ ap (λ b. cond b part (part_named name rest parts)) other in
      subst (IsNamedPart order whole key name) same told;
}

pub settled_found : (segments : Choice) (whole : List Piece) (piece : Piece) (dialect : Dialect) (pattern key name : List ℕ) (at : Place) (after end : ℕ) → IsSettled (order_of segments) whole dialect pattern key name at → pieces_from dialect pattern at ≡ piece ∷ pieces_at dialect pattern after → IsChosen (order_of segments) piece (pieces_at dialect pattern after) key at.key end → has_name name piece ≡ true → IsNamedPart (order_of segments) whole key name (part_between key at.key end)
settled_found segments whole piece dialect pattern key name at after end settled read chosen named =
    let order = order_of segments in
    let rest = pieces_at dialect pattern after in
    let part = part_between key at.key end in
    let first = first_exists segments rest key end chosen.within chosen.rest in
    let parts = first.0 in
    let more = IsFirstDivision-cons order piece rest key at.key end parts settled.within chosen first.1 in
    let told = settled.tells (part ∷ parts) (subst (λ (pieces : List Piece). IsFirstDivision order pieces (drop at.key key) (part ∷ parts)) (sym read) more) in
    let same : part_named name (pieces_from dialect pattern at) (part ∷ parts) ≡ part =
    ap (λ pieces. part_named name pieces (part ∷ parts)) read ∙ ap (λ b. cond b part (part_named name rest parts)) named in
    subst (IsNamedPart order whole key name) same told

pub settled_end : (segments : Choice) (whole : List Piece) (dialect : Dialect) (pattern key name : List ℕ) (at : Place) → IsSettled (order_of segments) whole dialect pattern key name at → pieces_from dialect pattern at ≡ [] → IsNamedPart (order_of segments) whole key name []
settled_end segments whole dialect pattern key name at settled read =
    let first = first_exists segments (pieces_from dialect pattern at) key at.key settled.within settled.fitting in
    subst (IsNamedPart (order_of segments) whole key name) (ap (λ pieces. part_named name pieces first.0) read) (settled.tells first.0 first.1)
