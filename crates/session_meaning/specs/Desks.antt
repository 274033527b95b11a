-- Where a desk stands behind the items of a script: its log has the published edits, and beside it are their tables and the pending
-- ones.
use Rattle.std.specs.Prelude.{◌≡◌, ℕ, List, ◌++◌, Option, take}
use Rattle.perm_base.specs.declared.shapes.Shapes.{Shapes}
use Rattle.policy_table.specs.Tables.{Policy}
use Rattle.policy_table.specs.declared.change.Change.{Change}
use Rattle.script_read.specs.Said.{Said}
use Rattle.version_log.specs.Log.{Logged, Stands}
use Rattle.session_meaning.specs.Given.{given}
use Rattle.session_meaning.specs.Versions.{kept, out, published, start}

-- the published edits
abbrev pub history : Shapes → Policy → List Said → List (List Change)
history shapes opening items = take (out shapes opening items) (given shapes opening items)

-- the log stands for the published edits and starts where the items ask for it, the tables beside it are what these edits make of
-- the opening ones, the pending edits are the others that are given, and this is the count that is to be kept
pub record IsBehind (shapes : Shapes) (opening : Policy) (items : List Said) (log : Logged) (policy : Policy) (pending : List (List Change)) (count : Option ℕ) : Type 0 where
  pub stands : Stands log (history shapes opening items)
  pub tables : policy ≡ published shapes opening items
  pub from : log.start ≡ start shapes opening items
  pub others : given shapes opening items ≡ history shapes opening items ++ pending
  pub keeps : count ≡ kept items
