-- What is kept of the domains of a relation's rules: how many rules have each, and how many have one that is a pattern.
use Rattle.std.specs.Prelude.{◌≡◌, ℕ, ◌+◌, ◌<◌, ◌^◌, List, [], ◌∷◌, ◌++◌, Some, get_or, unwrap_or}
use Rattle.std.specs.List.{count_by}
use Rattle.std.specs.Map.{lookup}
use Rattle.std.specs.Str.{bytes_eq}
use Rattle.perm_base.specs.Patterns.{is_pattern}
use Rattle.perm_base.specs.declared.shapes.Fit.{Fit}
use Rattle.perm_base.specs.declared.shapes.Fit.TheVariants.{Exact, KeyMatch, KeyMatch2, KeyMatch3, Glob}
use Rattle.policy_table.specs.Tables.{Fields}
use Rattle.policy_table.specs.declared.patterns.Patterns.{Patterns}

-- the domain of a relation's rule: its third field
abbrev pub domain_of : Fields → List ℕ
domain_of rule = get_or rule 2 []

-- how many texts are patterns of a function; no text is one of equality
abbrev pub pattern_count : Patterns → Fit → ℕ
pattern_count patterns Exact = 0
pattern_count patterns KeyMatch = patterns.key_match
pattern_count patterns KeyMatch2 = patterns.key_match2
pattern_count patterns KeyMatch3 = patterns.key_match3
pattern_count patterns Glob = patterns.glob

-- each different domain with its number, the numbers of patterns, and the room
pub record Counted : Type 0 where
  pub entries : List (List ℕ × ℕ)
  pub patterns : Patterns
  pub spare : ℕ

-- how often a domain is counted
abbrev pub count_of : Counted → List ℕ → ℕ
count_of counted text = unwrap_or (lookup (bytes_eq text) counted.entries) 0

-- these domains are counted
pub record AreCounted (texts : List (List ℕ)) (counted : Counted) : Type 0 where
  pub each : (text : List ℕ) → count_of counted text ≡ count_by (bytes_eq text) texts
  pub patterns : (fit : Fit) → pattern_count counted.patterns fit ≡ count_by (is_pattern fit) texts

-- no entry stands for a domain that is not counted
abbrev pub HasNoZero : List (List ℕ × ℕ) → Type 0
HasNoZero entries = (text : List ℕ) → lookup (bytes_eq text) entries ≡ Some 0 → ⊥

-- one domain more can be counted
pub record CanCount (counted : Counted) : Type 0 where
  pub each : (text : List ℕ) → count_of counted text + 1 < 2 ^ 64
  pub patterns : (fit : Fit) → pattern_count counted.patterns fit + 1 < 2 ^ 64

-- a domain is counted, beside others
pub record Counts (text : List ℕ) (counted : Counted) : Type 0 where
  pub others : List (List ℕ)
  pub all : AreCounted (text ∷ others) counted

-- these domains are counted, beside others
pub record CountsAll (texts : List (List ℕ)) (counted : Counted) : Type 0 where
  pub others : List (List ℕ)
  pub all : AreCounted (texts ++ others) counted
