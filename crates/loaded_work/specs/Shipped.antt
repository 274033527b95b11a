-- What the command `ship` writes.
use Rattle.std.specs.Prelude.{ℕ, ◌+◌, Bool, true, false, List, drop}
use Rattle.log_ship.specs.Packets.{shipped}
use Rattle.perm_base.specs.declared.shapes.Shapes.{Shapes}
use Rattle.policy_table.specs.Tables.{Policy}
use Rattle.script_read.specs.Said.{Said}
use Rattle.script_read.specs.Said as said
use Rattle.session_meaning.specs.Desks.{history}
use Rattle.session_meaning.specs.Versions.{start}

-- the packets of the edits that items publish, from the first that is kept on
abbrev pub ship_text : Shapes → Policy → List Said → List ℕ
ship_text shapes opening items = shipped (start shapes opening items + 1) (drop (start shapes opening items) (history shapes opening items))

-- the items that are done; all others are passed over
abbrev pub is_done : Said → Bool
is_done (said.edits call) = true
is_done said.publishes = true
is_done (said.keeps count) = true
is_done _ = false
