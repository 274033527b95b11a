-- What doing an item of a script does to a desk.
use Rattle.std.specs.Prelude.{List, [], ◌∷◌, ◌++◌}
use Rattle.desk_session.specs.Desks.{StandsBehind}
use Rattle.policy_desk.specs.Desks.{Work}
use Rattle.policy_table.specs.Tables.{Policy}
use Rattle.script_read.specs.Said.{Said}

-- whatever items the desk stood behind, it now stands behind this one too
abbrev pub GoesBehind : Said → Work → Work → Type 0
GoesBehind item old new = (opening : Policy) (items : List Said) → StandsBehind opening items old → StandsBehind opening (items ++ item ∷ []) new
