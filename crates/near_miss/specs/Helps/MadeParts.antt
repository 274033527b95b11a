-- What the steps of making parts give.
use Rattle.std.specs.Prelude.{◌≡◌, ◌≢◌, List, map, Option, None}
use Rattle.std.specs.Borrow.{Bor}
use Rattle.matcher_read.specs.Expression.{Expression, expression}
use Rattle.matcher_read.specs.declared.tree.Tree.{Tree}
use Rattle.model_conf.specs.ModelText.{ModelParts}
use Rattle.model_conf.specs.declared.fault.ModelFault.{ModelFault}
use Rattle.model_conf.specs.declared.fault.ModelFault.TheVariants.{NoMemory}

-- the expressions of trees
abbrev pub seen : List (Bor Tree) → List Expression
seen trees = map (λ (tree : Bor Tree). expression tree.now) trees

-- no part, where memory did not run out
abbrev pub IsUnread : ModelFault → Option ModelParts → Type 0
IsUnread fault found = (found ≡ None) × (fault ≢ NoMemory)
