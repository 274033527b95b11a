-- What contracts see of a role section: its shape, the hierarchy limit, the domains of its relation, and the rows with a pattern as
-- their domain. The rows of the relation stand in tables, and are named from outside.
use Rattle.std.specs.Prelude.{◌≡◌, ℕ, ◌==◌, ◌≤◌, Bool, true, List, All, length}
use Rattle.std.specs.List.{list_all}
use Rattle.perm_base.specs.declared.shapes.RoleShape.{RoleShape}
use Rattle.policy_table.specs.Limits.{role_columns}
use Rattle.policy_table.specs.Tables.{Fields}
use Rattle.policy_table.specs.declared.change.Change.{Change}
use Rattle.policy_table.specs.declared.change.Change.TheVariants.{Insert, Remove, Replace}
use Rattle.role_domain.specs.Domains.{AreDomains, ArePatterns, Domains}
use Rattle.role_domain.specs.Relations.{Relation, terms_of}
use Rattle.role_domain.specs.Steps.{AreReady, Touched}

pub record Section : Type 0 where
  pub shape : RoleShape
  pub limit : ℕ
  pub domains : Domains
  pub patterns : List Fields

-- the relation of a section, with these rows
abbrev pub relation_of : Section → List Fields → Relation
relation_of section all = record { terms = terms_of section.shape section.limit; rows = all }

-- the section is of these rows: they have their columns and are not too many, and it keeps their domains, and those of them with a
-- pattern as their domain
pub record IsSectionOf (section : Section) (all : List Fields) : Type 0 where
  pub columns : All (λ (row : Fields). length row ≡ role_columns section.shape) all
  pub few : length all ≤ 200000
  pub domains : AreDomains (relation_of section all) section.domains.entries
  pub patterns : ArePatterns (relation_of section all) section.patterns

-- each rule that the changes put in has so many columns
abbrev pub puts_columns : ℕ → Change → Bool
puts_columns columns (Insert table rule) = length rule == columns
puts_columns columns (Remove table rule) = true
puts_columns columns (Replace table old new) = length new == columns

abbrev pub all_columns : ℕ → List Change → Bool
all_columns columns changes = list_all (puts_columns columns) changes

-- an edit that is ready: what becomes of each domain that it touches, and the rows with a pattern as their domain afterwards
pub record Draft : Type 0 where
  pub touched : Touched
  pub patterns : List Fields

-- the draft makes of this section that of these rows: they have their columns and are not too many, and the domains and patterns of
-- them are ready
pub record IsPreparedFor (section : Section) (after : List Fields) (draft : Draft) : Type 0 where
  pub columns : All (λ (row : Fields). length row ≡ role_columns section.shape) after
  pub few : length after ≤ 200000
  pub domains : AreReady (relation_of section after) draft.touched section.domains
  pub patterns : ArePatterns (relation_of section after) draft.patterns
