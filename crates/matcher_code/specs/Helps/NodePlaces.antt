-- The place that a walk gives each node: its own, or one place for all; only private clauses cite this.
use Rattle.std.specs.Prelude.{ℕ, Option, Some, None}
use Rattle.matcher_read.specs.Expression.{Expression, Expressions}
use Rattle.matcher_meaning.specs.Comes.{all_at, each_at}

-- the expression with its own places, or with this one at each node
abbrev pub placed : Option ℕ → Expression → Expression
placed None e = e
placed (Some at) e = all_at at e

-- each of the expressions so
abbrev pub each_placed : Option ℕ → Expressions → Expressions
each_placed None es = es
each_placed (Some at) es = each_at at es
