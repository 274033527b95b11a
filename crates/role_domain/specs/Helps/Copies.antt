-- What a copy of domains has of them.
use Rattle.std.specs.Prelude.{ℕ, List, map}
use Rattle.perm_base.specs.declared.shapes.Fit.{Fit}
use Rattle.policy_table.specs.Tables.{Fields}
use Rattle.role_domain.specs.declared.domain.Domain.{Domain}

-- a domain without the room of its graph
pub record Content : Type 0 where
  pub own : ℕ
  pub rows : List Fields
  pub names : Fit
  pub limit : ℕ

abbrev pub content_of : Domain → Content
content_of domain = record { own = domain.own; rows = domain.graph.rows; names = domain.graph.names; limit = domain.graph.limit }

-- the domains by their texts without that room
abbrev pub contents_of : List (List ℕ × Domain) → List (List ℕ × Content)
contents_of entries = map (λ (entry : List ℕ × Domain). (entry.0, content_of entry.1)) entries
