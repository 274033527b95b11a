-- What contracts see of a policy as a whole: the shapes of its tables, the key of its index, the log of its edits, and the
-- tables after these (Casbin, the enforcer's model and policy).
use Rattle.std.specs.Prelude.{◌≡◌, List, Option}
use Rattle.edit_calls.specs.Admitted.{AreAdmitted}
use Rattle.perm_base.specs.declared.shapes.Shapes.{Shapes}
use Rattle.policy_index.specs.Indexed.{Indexed}
use Rattle.policy_index.specs.Keys.{KeyParts}
use Rattle.policy_table.specs.Changes.{replay}
use Rattle.policy_table.specs.Held.{Held}
use Rattle.policy_table.specs.Limits.{AreSound}
use Rattle.policy_table.specs.Tables.{Policy}
use Rattle.policy_table.specs.declared.change.Change.{Change}
use Rattle.role_domain.specs.Sections.{Section}
use Rattle.version_log.specs.Log.{Logged, Stands}

-- what is kept beside the log, with its room: the tables, the index of p, and a section for each role relation
pub record Parts : Type 0 where
  pub held : Held
  pub index : Option Indexed
  pub sections : List Section

-- the key by which an index of p is kept, or none; of what is kept beside, the tables are read, and the rest by
-- `IsPreparedFor` alone
pub record State : Type 0 where
  pub shapes : Shapes
  pub key : Option KeyParts
  pub log : Logged
  pub parts : Parts

-- the tables after all edits
abbrev pub tables : State → Policy
tables state = state.parts.held.policy

-- the state stands for a history of edits from opening tables: its log does, and its tables are what the history made of them
pub record StandsFor (state : State) (opening : Policy) (history : List (List Change)) : Type 0 where
  pub log : Stands state.log history
  pub tables : state.parts.held.policy ≡ replay history opening

-- tables have grown by edits: from some sound tables, in which the edits were admitted one after the other
pub record IsGrown (shapes : Shapes) (edits : List (List Change)) (policy : Policy) : Type 0 where
  pub base : Policy
  pub sound : AreSound shapes base
  pub admitted : AreAdmitted shapes base edits
  pub tables : policy ≡ replay edits base
