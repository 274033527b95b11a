-- A relation before and after changes, and the rows that come and go.
use Rattle.std.specs.Prelude.{◌≡◌, ◌≤◌, ◌+◌, true, false, ℕ, Bool, not, ◌&&◌, List, [], ◌∷◌, Option, All, length, is_some, unwrap_or, if◌then◌else◌}
use Rattle.std.specs.List.{count_by}
use Rattle.std.specs.Map.{lookup}
use Rattle.policy_table.specs.Tables.{Fields, same}
use Rattle.policy_table.specs.declared.change.Change.{Change}
use Rattle.policy_table.specs.declared.change.Change.TheVariants.{Insert, Remove, Replace}
use Rattle.role_domain.specs.Domains.{AreDomains, ArePatterns, Domains, IsRight}
use Rattle.role_domain.specs.Helps.Tallies.{Brings, Tallies}
use Rattle.role_domain.specs.Relations.{Relation}
use Rattle.role_domain.specs.declared.domain.Domain.{Domain}
use Rattle.role_domain.specs.declared.terms.Terms.{Terms}

-- whether a rule stands behind a change, where it stood before it or not
abbrev pub stands_behind : Change → Fields → Bool → Bool
stands_behind (Insert table rule) one stood = if same rule one then true else stood
stands_behind (Remove table rule) one stood = if same rule one then false else stood
stands_behind (Replace table old new) one stood = if same new one then true else (if same old one then false else stood)

-- the same behind changes
abbrev pub stands_after : List Change → Fields → Bool → Bool
stands_after [] one stood = stood
stands_after (change ∷ changes) one stood = stands_after changes one (stands_behind change one stood)

-- whether a rule stands, as was said last of it, or else as it stood
abbrev pub said_of : List (Fields × Bool) → Fields → Bool → Bool
said_of said one stood = unwrap_or (lookup (same one) said) stood

-- a rule comes, or goes, where it stood before or not and stands afterwards or not
abbrev pub turns : Bool → Bool → Bool → Bool
turns comes before after = if comes then after && not before else before && not after

-- the rows of a relation before and after changes, and those that come and go
pub record Turn : Type 0 where
  pub terms : Terms
  pub before : List Fields
  pub after : List Fields
  pub come : List Fields
  pub go : List Fields

abbrev pub before_of : Turn → Relation
before_of turn = record { terms = turn.terms; rows = turn.before }

abbrev pub after_of : Turn → Relation
after_of turn = record { terms = turn.terms; rows = turn.after }

-- a relation that had no rows, and these come
abbrev pub first_turn : Terms → List Fields → Turn
first_turn terms all = record { terms = terms; before = []; after = all; come = all; go = [] }

pub record IsTurnOf (turn : Turn) (terms : Terms) (come go : List Fields) : Type 0 where
  pub terms_are : turn.terms ≡ terms
  pub come_are : turn.come ≡ come
  pub go_are : turn.go ≡ go

-- the rows afterwards are those before with the ones that come, without the ones that go
pub record IsTurned (turn : Turn) : Type 0 where
  pub balance : (test : Fields → Bool) → count_by test turn.after + count_by test turn.go ≡ count_by test turn.before + count_by test turn.come
  pub stood : (test : Fields → Bool) → count_by test turn.go ≤ count_by test turn.before

-- what is to become of the domain of a text can be told
pub record CanStep (turn : Turn) (text : List ℕ) (there : Option Domain) (coming going : Tallies) (pattern_rows : List Fields) : Type 0 where
  pub turned : IsTurned turn
  pub right : IsRight (before_of turn) text there
  pub come : Brings turn.terms.domains (is_some there) text turn.come coming
  pub go : Brings turn.terms.domains (is_some there) text turn.go going
  pub patterns : ArePatterns (after_of turn) pattern_rows
  pub few_before : length turn.before ≤ 200000
  pub few : length turn.after ≤ 200000
  pub columns : All (λ (row : Fields). 2 ≤ length row) pattern_rows
  pub some : 1 ≤ turn.terms.limit
  pub most : turn.terms.limit ≤ 250

-- what is to become of all domains can be told
pub record CanTurn (turn : Turn) (domains : Domains) (pattern_rows : List Fields) : Type 0 where
  pub turned : IsTurned turn
  pub right : AreDomains (before_of turn) domains.entries
  pub patterns : ArePatterns (after_of turn) pattern_rows
  pub few_before : length turn.before ≤ 200000
  pub few : length turn.after ≤ 200000
  pub columns_come : All (λ (row : Fields). 2 ≤ length row) turn.come
  pub columns_go : All (λ (row : Fields). 2 ≤ length row) turn.go
  pub columns : All (λ (row : Fields). 2 ≤ length row) pattern_rows
  pub some : 1 ≤ turn.terms.limit
  pub most : turn.terms.limit ≤ 250
