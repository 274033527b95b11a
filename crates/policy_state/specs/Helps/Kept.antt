-- What a state keeps.
use Rattle.std.specs.Prelude.{◌≡◌, ℕ, ◌≤◌, true, List, All, IfSome, Option, length, map, option_map}
use Rattle.perm_base.specs.Shapes.{AreValid}
use Rattle.perm_base.specs.declared.shapes.RoleShape.{RoleShape}
use Rattle.perm_base.specs.declared.shapes.Shapes.{Shapes}
use Rattle.perm_base.specs.declared.shapes.TableId.TheVariants.{G, P}
use Rattle.policy_index.specs.Indexed.{Indexed, IsIndexOf}
use Rattle.policy_index.specs.Keys.{KeyParts, is_below}
use Rattle.policy_state.specs.States.{IsGrown, Parts}
use Rattle.policy_table.specs.Changes.{edited, flat, own}
use Rattle.policy_table.specs.Held.{Held}
use Rattle.policy_table.specs.Slots.{slots}
use Rattle.policy_table.specs.Limits.{AreSound, role_columns}
use Rattle.policy_table.specs.Tables.{Fields, Policy, rows}
use Rattle.policy_table.specs.declared.change.Change.{Change}
use Rattle.role_domain.specs.Relations.{HasFewPatterns}
use Rattle.role_domain.specs.Sections.{Section, IsSectionOf, all_columns}
use Rattle.version_log.specs.Log.{Logged}

-- what stays of a section while edits are made in it
pub record Kept : Type 0 where
  pub shape : RoleShape
  pub limit : ℕ

abbrev pub kept_of : Section → Kept
kept_of section = record { shape = section.shape; limit = section.limit }

-- what the section of a shape keeps
abbrev pub kept_by : ℕ → RoleShape → Kept
kept_by limit shape = record { shape = shape; limit = limit }

-- the section is of the rows of its relation in tables
abbrev pub IsSectionIn : Policy → Section → Type 0
IsSectionIn policy section = IsSectionOf section (rows policy (G section.shape.number))

-- a section for each of these relations, in their order
pub record AreSectionsOf (limit : ℕ) (roles : List RoleShape) (policy : Policy) (sections : List Section) : Type 0 where
  pub kept : map kept_of sections ≡ map (kept_by limit) roles
  pub each : All (IsSectionIn policy) sections

-- a section for each relation of the shapes
abbrev pub AreSections : Shapes → Policy → List Section → Type 0
AreSections shapes policy sections = AreSectionsOf shapes.limit shapes.roles policy sections

-- the index, where there is one, is of these rows by their slots
abbrev pub AreIndexed : Option Indexed → List Fields → Type 0
AreIndexed index by_slot = IfSome index (λ (i : Indexed). IsIndexOf i by_slot)

-- its key
abbrev pub key_of : Option Indexed → Option KeyParts
key_of index = option_map (λ (i : Indexed). i.key) index

-- the parts of a state
abbrev pub parts_of : Held → Option Indexed → List Section → Parts
parts_of held index sections = record { held = held; index = index; sections = sections }

-- what a state keeps: valid shapes; sound tables that have grown by the edits of the log; their index, of whose key the
-- columns are those of p; and their sections
pub record IsState (shapes : Shapes) (log : Logged) (parts : Parts) : Type 0 where
  pub valid : AreValid shapes
  pub sound : AreSound shapes parts.held.policy
  pub grown : IsGrown shapes log.tail parts.held.policy
  pub below : IfSome (key_of parts.index) (λ (key : KeyParts). is_below shapes.columns key ≡ true)
  pub index : AreIndexed parts.index (slots parts.held P)
  pub sections : AreSections shapes parts.held.policy parts.sections

-- the changes of a section's relation among those of edits can be made ready in the section
pub record CanTake (edits : List (List Change)) (policy : Policy) (section : Section) : Type 0 where
  pub section_of : IsSectionIn policy section
  pub columns : all_columns (role_columns section.shape) (own (G section.shape.number) (flat edits)) ≡ true
  pub few : length (rows (edited (flat edits) policy) (G section.shape.number)) ≤ 200000
  pub patterns : HasFewPatterns section.shape (rows (edited (flat edits) policy) (G section.shape.number))
