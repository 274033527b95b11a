-- The kinds of node that a matcher is searched for.
use Rattle.std.specs.Prelude.{Bool, true, false}
use Rattle.matcher_read.specs.Expression.{Expression, policy, evaluated}
use Rattle.matcher_read.specs.declared.kinds.NodeKind.{NodeKind}
use Rattle.matcher_read.specs.declared.kinds.NodeKind.TheVariants.{PolicyColumn, Eval}

-- the node is of this kind: an `eval` names a column of the policy, too
abbrev pub is_of : Expression → NodeKind → Bool
is_of (policy at column) PolicyColumn = true
is_of (policy at column) Eval = false
is_of (evaluated at column) kind = true
is_of _ kind = false
