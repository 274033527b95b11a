-- Rows that stand in a list, and links by some of them.
use Rattle.std.proofs.Common.{◌≡◌, ◌⊎◌, inl, inr, ℕ, List, [], ◌∷◌, Option, None, Some, map, sym, subst, arith}
use Rattle.std.specs.List.{Contains}
use Rattle.std.proofs.lemmas.List.Elements.{Contains-append_cases, Contains-append_left, Contains-append_right, Contains-push, Contains-push_cases}
use Rattle.key_match.specs.Patterns.{brace_pieces, colon_pieces, glob_pieces}
use Rattle.key_match.specs.Pieces.{Covers, Piece}
use Rattle.key_match.specs.Stars.{AgreesToStar}
use Rattle.perm_base.specs.declared.shapes.Fit.{Fit}
use Rattle.perm_base.specs.declared.shapes.Fit.TheVariants.{Exact, KeyMatch, KeyMatch2, KeyMatch3, Glob}
use Rattle.perm_base.specs.declared.shapes.RoleShape.{RoleShape}
use Rattle.policy_table.specs.Tables.{Fields}
use Rattle.role_meaning.specs.Fits.{Fits, IsMatched}
use Rattle.role_meaning.specs.Links.{CountsIn, SomeLink, domain_of, role_of, user_of}
use Rattle.key_match.proofs.CallerLemmas.{Decided, decided_and, decided_by, decided_false, decided_or, decided_true, same_text}

pub stands_here : {X : Type 0} (x : X) (xs : List X) → Contains (x ∷ xs) x
stands_here x xs = Contains-append_left (x ∷ []) xs x (Contains-push [] x)

pub stands_behind : {X : Type 0} (x : X) (xs : List X) (y : X) → Contains xs y → Contains (x ∷ xs) y
stands_behind x xs y there = Contains-append_right (x ∷ []) xs y there

pub stands_nowhere : {X : Type 0} (x : X) → Contains [] x → ⊥
stands_nowhere x (at, within, same) = absurd (omega arith)

pub stands_cases : {X : Type 0} (x : X) (xs : List X) (y : X) → Contains (x ∷ xs) y → (x ≡ y) ⊎ Contains xs y
stands_cases x xs y there = by (Contains-append_cases (x ∷ []) xs y there)
  where
    here : Contains [] y ⊎ (x ≡ y) → (x ≡ y) ⊎ Contains xs y
    here (inl none) = absurd (stands_nowhere y none)
    here (inr same) = inl same

    by : Contains (x ∷ []) y ⊎ Contains xs y → (x ≡ y) ⊎ Contains xs y
    by (inl first) = here (Contains-push_cases [] x y first)
    by (inr behind) = inr behind

pub map_cases : {X Y : Type 0} (f : X → Y) (xs : List X) (y : Y) → Contains (map f xs) y → (x : X) × Contains xs x × (f x ≡ y)
map_cases f [] y none = absurd (stands_nowhere y none)
map_cases {X} {Y} f (x ∷ xs) y stands = by (stands_cases (f x) (map f xs) y stands) (map_cases f xs y)
  where
    by : (f x ≡ y) ⊎ Contains (map f xs) y → (Contains (map f xs) y → (z : X) × Contains xs z × (f z ≡ y)) → (z : X) × Contains (x ∷ xs) z × (f z ≡ y)
    by (inl e) more = (x, stands_here x xs, e)
    by (inr behind) more = let found = more behind in (found.0, stands_behind x xs found.0 found.1, found.2)

pub map_stands : {X Y : Type 0} (f : X → Y) (xs : List X) (x : X) → Contains xs x → Contains (map f xs) (f x)
map_stands f [] x none = absurd (stands_nowhere x none)
map_stands {X} {Y} f (one ∷ xs) x stands = by (stands_cases one xs x stands) (map_stands f xs x)
  where
    by : (one ≡ x) ⊎ Contains xs x → (Contains xs x → Contains (map f xs) (f x)) → Contains (f one ∷ map f xs) (f x)
    by (inl e) more = subst (λ (z : X). Contains (f one ∷ map f xs) (f z)) e (stands_here (f one) (map f xs))
    by (inr behind) more = stands_behind (f one) (map f xs) (f x) (more behind)

-- an element of which something holds
pub record SomeOf (X : Type 0) (Holds : X → Type 0) (xs : List X) : Type 0 where
  pub one : X
  pub stands : Contains xs one
  pub holds : Holds one

some_cases : {X : Type 0} (Holds : X → Type 0) (x : X) (xs : List X) → SomeOf X Holds (x ∷ xs) → Holds x ⊎ SomeOf X Holds xs
some_cases {X} Holds x xs some = by (stands_cases x xs some.one some.stands)
  where
    by : (x ≡ some.one) ⊎ Contains xs some.one → Holds x ⊎ SomeOf X Holds xs
    by (inl same) = inl (subst Holds (sym same) some.holds)
    by (inr behind) = inr (record { one = some.one; stands = behind; holds = some.holds })

some_from : {X : Type 0} (Holds : X → Type 0) (x : X) (xs : List X) → Holds x ⊎ SomeOf X Holds xs → SomeOf X Holds (x ∷ xs)
some_from Holds x xs (inl here) = record { one = x; stands = stands_here x xs; holds = here }
some_from Holds x xs (inr some) = record { one = some.one; stands = stands_behind x xs some.one some.stands; holds = some.holds }

pub some_decided : {X : Type 0} (Holds : X → Type 0) → ((x : X) → Decided (Holds x)) → (xs : List X) → Decided (SomeOf X Holds xs)
some_decided {X} Holds decided [] = decided_false (SomeOf X Holds []) (λ some. stands_nowhere some.one some.stands)
some_decided {X} Holds decided (x ∷ xs) =
    decided_by (Holds x ⊎ SomeOf X Holds xs) (SomeOf X Holds (x ∷ xs)) (some_from Holds x xs) (some_cases Holds x xs)
    (decided_or (Holds x) (SomeOf X Holds xs) (decided x) (some_decided Holds decided xs))

abbrev pub StarDecided : Type 0
StarDecided = (key pattern : List ℕ) → Decided (AgreesToStar key pattern)

abbrev pub CoversDecided : Type 0
CoversDecided = (pieces : List Piece) (text : List ℕ) → Decided (Covers pieces text)

matched_decided : StarDecided → CoversDecided → (fit : Fit) (name pattern : List ℕ) → Decided (IsMatched fit name pattern)
matched_decided star covers Exact name pattern = decided_false ⊥ (λ none. none)
matched_decided star covers KeyMatch name pattern = star name pattern
matched_decided star covers KeyMatch2 name pattern = covers (colon_pieces pattern) name
matched_decided star covers KeyMatch3 name pattern = covers (brace_pieces pattern) name
matched_decided star covers Glob name pattern = covers (glob_pieces pattern) name

pub fits_decided : StarDecided → CoversDecided → (fit : Fit) (name pattern : List ℕ) → Decided (Fits fit name pattern)
unfolding Fits
fits_decided star covers fit name pattern =
    decided_or (name ≡ pattern) (IsMatched fit name pattern) (same_text name pattern) (matched_decided star covers fit name pattern)

abbrev pub FitsDecided : Type 0
FitsDecided = (fit : Fit) (name pattern : List ℕ) → Decided (Fits fit name pattern)

pub counts_decided : FitsDecided → (shape : RoleShape) (domain : Option (List ℕ)) (row : Fields) → Decided (CountsIn shape domain row)
counts_decided fits shape None row = decided_true (CountsIn shape None row) tt
counts_decided fits shape (Some domain) row = fits shape.domains domain (domain_of row)

pub link_decided : FitsDecided → (shape : RoleShape) (rows : List Fields) (domain : Option (List ℕ)) (name : List ℕ) (Holds : List ℕ → Type 0) → ((role : List ℕ) → Decided (Holds role)) → Decided (SomeLink shape rows domain name Holds)
link_decided fits shape rows domain name Holds decided =
    let This : Fields → Type 0 = λ row. Fits shape.names name (user_of row) × (CountsIn shape domain row × Holds (role_of row)) in
    decided_by (SomeOf Fields This rows) (SomeLink shape rows domain name Holds)
    (λ some. record { row = some.one; stands = some.stands; fits = some.holds.0; counts = some.holds.1.0; holds = some.holds.1.1 })
    (λ link. record { one = link.row; stands = link.stands; holds = (link.fits, (link.counts, link.holds)) })
    (some_decided This (λ row. decided_and (Fits shape.names name (user_of row)) (CountsIn shape domain row × Holds (role_of row)) (fits shape.names name (user_of row))
    (decided_and (CountsIn shape domain row) (Holds (role_of row)) (counts_decided fits shape domain row) (decided (role_of row)))) rows)
