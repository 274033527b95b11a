-- What becomes of the domains that an edit touches.
use Rattle.std.specs.Prelude.{◌≡◌, ◌<◌, ◌≤◌, false, ℕ, Bool, List, Option, Some, All, length}
use Rattle.std.specs.List.{IsDistinct, list_any}
use Rattle.std.specs.Map.{keys_of}
use Rattle.std.specs.Str.{bytes_eq}
use Rattle.policy_table.specs.Tables.{Fields}
use Rattle.role_domain.specs.Domains.{Domains, IsDomain, IsRight, found}
use Rattle.role_domain.specs.Relations.{Relation, Tells, counted, named}
use Rattle.role_domain.specs.declared.domain.Domain.{Domain}
use Rattle.role_domain.specs.declared.prepared.DomainStep.{DomainStep}
use Rattle.role_domain.specs.declared.prepared.DomainStep.TheVariants.{Gone, New, Changed}
use Rattle.role_graph.specs.Graph.{Edit, IsPreparedFor}
use Rattle.role_graph.specs.Groups.{after, times}

-- the touched domains by their texts
abbrev pub Touched : Type 0
Touched = List (List ℕ × DomainStep)

abbrev pub is_touched : List ℕ → Touched → Bool
is_touched text touched = list_any (bytes_eq text) (keys_of touched)

-- the graph of a domain that is there can be edited, to the rows that count in it
pub record IsChanged (relation : Relation) (text : List ℕ) (there : Option Domain) (own : ℕ) (edit : Edit) : Type 0 where
  pub domain : Domain
  pub is : there ≡ Some domain
  pub good : IsPreparedFor domain.graph edit
  pub counts : own ≡ named text relation.rows
  pub some : 0 < own
  pub names : domain.graph.names ≡ relation.terms.names
  pub limited : domain.graph.limit ≡ relation.terms.limit
  pub rows : (test : List ℕ → Bool) → Tells relation.terms.domains text test → (one : Fields) → times one (after edit.changed domain.graph.rows) ≡ counted test one relation.rows

-- the step makes of what is found at the text what is to be found there
abbrev pub IsReady : Relation → List ℕ → Option Domain → DomainStep → Type 0
IsReady relation text there Gone = named text relation.rows ≡ 0
IsReady relation text there (New domain) = IsDomain relation text domain
IsReady relation text there (Changed own edit) = IsChanged relation text there own edit

-- each touched domain once and ready, room for them, and the others as they are to be
pub record AreReady (relation : Relation) (touched : Touched) (domains : Domains) : Type 0 where
  pub once : IsDistinct bytes_eq (keys_of touched)
  pub room : length touched ≤ domains.spare
  pub each : All (λ (one : List ℕ × DomainStep). IsReady relation one.0 (found domains.entries one.0) one.1) touched
  pub others : (text : List ℕ) → is_touched text touched ≡ false → IsRight relation text (found domains.entries text)
