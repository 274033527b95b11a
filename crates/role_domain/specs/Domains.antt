-- The domains of a relation: one for each text that a row has as its domain, with the graph of the rows that count there.
use Rattle.std.specs.Prelude.{◌≡◌, ◌<◌, ◌≤◌, ℕ, Bool, ◌&&◌, List, Option, None, Some, length}
use Rattle.std.specs.List.{count_by}
use Rattle.policy_table.specs.Tables.{Fields}
use Rattle.role_domain.specs.Relations.{Relation, Tells, counted, has_pattern, named}
use Rattle.role_domain.specs.declared.domain.Domain.{Domain}
use Rattle.role_graph.specs.Groups.{times}
pub use Rattle.role_graph.specs.Keyed.{found}

-- the domains by their texts, and for how many further ones there is room
pub record Domains : Type 0 where
  pub entries : List (List ℕ × Domain)
  pub spare : ℕ

-- the domain of a text that some row has: how many do, and a graph with the user and the role of each row that counts
pub record IsDomain (relation : Relation) (text : List ℕ) (domain : Domain) : Type 0 where
  pub own : domain.own ≡ named text relation.rows
  pub some : 0 < domain.own
  pub names : domain.graph.names ≡ relation.terms.names
  pub limited : domain.graph.limit ≡ relation.terms.limit
  pub rows : (test : List ℕ → Bool) → Tells relation.terms.domains text test → (one : Fields) → times one domain.graph.rows ≡ counted test one relation.rows

-- what is to be found at a text
abbrev pub IsRight : Relation → List ℕ → Option Domain → Type 0
IsRight relation text None = named text relation.rows ≡ 0
IsRight relation text (Some domain) = IsDomain relation text domain

-- the domains of the texts that rows have
pub record AreDomains (relation : Relation) (entries : List (List ℕ × Domain)) : Type 0 where
  pub right : (text : List ℕ) → IsRight relation text (found entries text)

-- the rows with a pattern as their domain, in some order
pub record ArePatterns (relation : Relation) (patterns : List Fields) : Type 0 where
  pub rows : (test : Fields → Bool) → count_by test patterns ≡ count_by (λ (row : Fields). has_pattern relation.terms.domains row && test row) relation.rows
  pub few : length patterns ≤ 64
