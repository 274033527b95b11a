-- Edits that are ready to be made in a policy, and the version at which its log is to start afterwards.
use Rattle.std.specs.Prelude.{◌≡◌, ℕ, ◌+◌, ◌≤◌, IfSome, List, [], ◌∷◌, length, Option, ⊤}
use Rattle.edit_calls.specs.Admitted.{AreAdmitted}
use Rattle.perm_base.specs.declared.shapes.TableId.TheVariants.{G}
use Rattle.policy_index.specs.Indexed.{Indexed, IsReadyFor}
use Rattle.policy_state.specs.States.{State}
use Rattle.policy_table.specs.Changes.{edited, flat}
use Rattle.policy_table.specs.Held.{IsPreparedFor as CanBeMade}
use Rattle.policy_table.specs.Tables.{Policy, rows}
use Rattle.policy_table.specs.declared.change.Change.{Change}
use Rattle.role_domain.specs.Sections.{Draft, Section, IsPreparedFor as CanBeLinked}
use Rattle.version_log.specs.Log.{most_versions, versions}

-- what is ready in each part of the state: the changes of the tables, and a draft for each section
pub record ReadyParts : Type 0 where
  pub tables : List Change
  pub sections : List Draft

-- the edits, the version of the start, and the parts
pub record Ready : Type 0 where
  pub edits : List (List Change)
  pub start : ℕ
  pub parts : ReadyParts

-- the same without the edits, which are handed over when they are made
pub record Readied : Type 0 where
  pub start : ℕ
  pub parts : ReadyParts

-- the changes can be made in the index, where there is one
abbrev pub CanIndex : List Change → Option Indexed → Type 0
CanIndex changes index = IfSome index (λ (i : Indexed). IsReadyFor i changes)

-- each draft makes of the section beside it that of its relation in these tables
abbrev pub CanLink : Policy → List Section → List Draft → Type 0
CanLink after [] [] = ⊤
CanLink after (section ∷ sections) (draft ∷ drafts) = CanBeLinked section (rows after (G section.shape.number)) draft × CanLink after sections drafts
CanLink after [] (draft ∷ drafts) = ⊥
CanLink after (section ∷ sections) [] = ⊥

-- the edits can be made in this state: each is admitted, every part has room for its own changes, and the start is one of the
-- log's versions
pub record AreReady (state : State) (edits : List (List Change)) (ready : Readied) : Type 0 where
  pub admitted : AreAdmitted state.shapes state.parts.held.policy edits
  pub few : versions state.log + length edits ≤ most_versions
  pub room : length edits ≤ state.log.spare
  pub from : state.log.start ≤ ready.start
  pub until : ready.start ≤ versions state.log
  pub tables : CanBeMade state.parts.held ready.parts.tables
  pub changes : ready.parts.tables ≡ flat edits
  pub index : CanIndex (flat edits) state.parts.index
  pub sections : CanLink (edited (flat edits) state.parts.held.policy) state.parts.sections ready.parts.sections

-- what is ready without its edits
abbrev pub readied : Ready → Readied
readied ready = record { start = ready.start; parts = ready.parts }

-- what is ready can be made in this state
abbrev pub IsPreparedFor : State → Ready → Type 0
IsPreparedFor state ready = AreReady state ready.edits (readied ready)
