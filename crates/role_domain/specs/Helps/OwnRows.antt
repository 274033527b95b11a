-- Rows by the texts of their domains, as they are lent.
use Rattle.std.specs.Prelude.{◌≡◌, ◌≤◌, ◌<◌, ◌++◌, ℕ, Bool, not, ◌&&◌, List, Option, None, Some, All, filter, length, map}
use Rattle.std.specs.Borrow.{Bor}
use Rattle.std.specs.Global.{Vec}
use Rattle.std.specs.Str.{bytes_eq}
use Rattle.perm_base.specs.Patterns.{is_pattern}
use Rattle.perm_base.specs.declared.shapes.Fit.{Fit}
use Rattle.policy_table.specs.Tables.{Fields}
use Rattle.role_domain.specs.Domains.{ArePatterns, found}
use Rattle.role_domain.specs.declared.terms.Terms.{Terms}
use Rattle.role_meaning.specs.Links.{domain_of}

-- rows by texts
abbrev pub Owned : Type 0
Owned = List (List ℕ × Vec (Bor Fields))

-- rows that are lent
abbrev pub lent : List (Bor Fields) → List Fields
lent rows = map (λ (row : Bor Fields). row.now) rows

-- a domain is this text, and no pattern
abbrev pub is_plain_text : Fit → List ℕ → List ℕ → Bool
is_plain_text fit text domain = not (is_pattern fit domain) && bytes_eq text domain

-- the rows with the text as their domain
abbrev pub named_rows : List ℕ → List Fields → List Fields
named_rows text rows = filter (λ (row : Fields). bytes_eq text (domain_of row)) rows

-- these, and behind them those of the rest, are the rows of all that have the text as their domain; where there are none, all of
-- these are among the rest
abbrev pub HasRowsAt : List Fields → List Fields → List ℕ → Option (Vec (Bor Fields)) → Type 0
HasRowsAt all rest text None = named_rows text rest ≡ named_rows text all
HasRowsAt all rest text (Some own) = (lent own.items ++ named_rows text rest ≡ named_rows text all) × (0 < length own.items)

-- those of all rows before the rest are there, by the texts of their domains
pub record HaveRows (all rest : List Fields) (owned : Owned) : Type 0 where
  pub at : (text : List ℕ) → HasRowsAt all rest text (found owned text)

-- a domain can be made of these rows, which are those of all that have its text, given the rows with a pattern as their domain
pub record CanMake (terms : Terms) (text : List ℕ) (all own patterns : List Fields) : Type 0 where
  pub has : own ≡ named_rows text all
  pub some : 0 < length own
  pub are : ArePatterns (record { terms = terms; rows = all }) patterns
  pub columns : All (λ (row : Fields). 2 ≤ length row) patterns
  pub wide : All (λ (row : Fields). 2 ≤ length row) all
  pub few : length all ≤ 200000
  pub least : 1 ≤ terms.limit
  pub most : terms.limit ≤ 250
