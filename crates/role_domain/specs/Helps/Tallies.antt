-- Rows that come or go, by the domains that they touch.
use Rattle.std.specs.Prelude.{◌≡◌, ℕ, Bool, ◌&&◌, List, [], All, length, is_some, if◌then◌else◌}
use Rattle.std.specs.Option.{option_map_or}
use Rattle.std.specs.Str.{bytes_eq}
use Rattle.perm_base.specs.Patterns.{is_pattern}
use Rattle.perm_base.specs.declared.shapes.Fit.{Fit}
use Rattle.policy_table.specs.Tables.{Fields}
use Rattle.role_domain.specs.Domains.{found}
use Rattle.role_domain.specs.Relations.{Tells, counted, named}
use Rattle.role_domain.specs.declared.tally.Tally.{Tally}
use Rattle.role_graph.specs.Groups.{times}

-- a tally for each text
abbrev pub Tallies : Type 0
Tallies = List (List ℕ × Tally)

-- how many of the rows have this text as their domain
abbrev pub own_at : Tallies → List ℕ → ℕ
own_at tallies text = option_map_or (λ (tally : Tally). tally.own) (found tallies text) 0

-- the users and roles of rows that touch the domain of this text
abbrev pub rows_at : Tallies → List ℕ → List Fields
rows_at tallies text = option_map_or (λ (tally : Tally). tally.rows.items) (found tallies text) []

-- whether the text is touched
abbrev pub has_text : Tallies → List ℕ → Bool
has_text tallies text = is_some (found tallies text)

-- a row with this domain touches the domain of a text: a pattern where that is there and fits it, and another where it is that text
abbrev pub meets : Fit → Bool → List ℕ → (List ℕ → Bool) → List ℕ → Bool
meets fit there text test domain = if is_pattern fit domain then there && test domain else bytes_eq text domain

-- what rows bring to the domain of a text, that is there or not
pub record Brings (fit : Fit) (there : Bool) (text : List ℕ) (rows : List Fields) (tallies : Tallies) : Type 0 where
  pub own : own_at tallies text ≡ named text rows
  pub two : All (λ (row : Fields). length row ≡ 2) (rows_at tallies text)
  pub pairs : (test : List ℕ → Bool) → Tells fit text test → (one : Fields) → times one (rows_at tallies text) ≡ counted (meets fit there text test) one rows
