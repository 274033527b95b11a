-- Trees in memory, seen as expressions; only private functions cite this.
use Rattle.std.specs.Prelude.{List, map}
use Rattle.std.specs.Borrow.{Bor}
use Rattle.matcher_read.specs.Expression.{Expression, expression}
use Rattle.matcher_read.specs.declared.tree.Tree.{Tree}

-- the expressions of trees
abbrev pub seen : List (Bor Tree) → List Expression
seen trees = map (λ (tree : Bor Tree). expression tree.now) trees
