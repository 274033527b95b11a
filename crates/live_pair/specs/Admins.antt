-- What contracts see of the administrator of a pair.
use Rattle.std.specs.Prelude.{List}
use Rattle.policy_desk.specs.Desks.{Work}
use Rattle.policy_table.specs.declared.change.Change.{Change}

-- the publishes so far, each a list of edits; the publishes of the copy that readers take; and the desk
pub record AdminSeen : Type 0 where
  pub list : List (List (List Change))
  pub shown : List (List (List Change))
  pub desk : Work
