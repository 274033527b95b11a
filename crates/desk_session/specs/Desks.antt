-- Where a desk stands in a script.
use Rattle.std.specs.Prelude.{◌≡◌, List, ◌++◌}
use Rattle.policy_desk.specs.Desks.{Work}
use Rattle.policy_state.specs.States.{tables}
use Rattle.policy_table.specs.Tables.{Policy}
use Rattle.script_read.specs.Said.{Said}
use Rattle.session_meaning.specs.Desks.{IsBehind}

-- the desk has published the edits that these items publish, the others that they give are pending, and it is to keep as many as
-- they say
abbrev pub HasEditsOf : Policy → List Said → Work → Type 0
HasEditsOf opening items desk = IsBehind desk.state.shapes opening items desk.state.log (tables desk.state) desk.pending desk.kept

-- the same, and the version before which edits may be let go is the one that the log starts at
pub record StandsBehind (opening : Policy) (items : List Said) (desk : Work) : Type 0 where
  pub edits : HasEditsOf opening items desk
  pub floor : desk.floor ≡ desk.state.log.start

-- the desk has the edits of some of the first items
pub record StandsAmid (opening : Policy) (items : List Said) (desk : Work) : Type 0 where
  pub front : List Said
  pub back : List Said
  pub parts : items ≡ front ++ back
  pub edits : HasEditsOf opening front desk
