-- What a matcher says: an expression, each node at its place, the byte of the text, counted from 1, where its literal, name, call or operator begins.
use Rattle.std.specs.Prelude.{ℕ, ◌+◌, ℤ, ◌||◌, Bool, false, List, [], ◌∷◌}
use Rattle.matcher_read.specs.declared.tree.Function.{Function}
use Rattle.matcher_read.specs.declared.tree.Operator.{Operator}
use Rattle.matcher_read.specs.declared.tree.Tree.{Tree, fold-Tree}
use Rattle.matcher_read.specs.declared.tree.Tree.TheOpen.{Tree-F}

-- what is called: a function, a role relation by its number, or a name that is neither
pub data Callee : Type 0 where
  function : Function → Callee
  relation : ℕ → Callee
  unknown : List (List ℕ) → Callee

mutual
  pub data Expression : Type 0 where
    text : ℕ → List ℕ → Expression
    whole : ℕ → ℤ → Expression
    truth : ℕ → Bool → Expression
    request : ℕ → List ℕ → List (List ℕ) → Expression
    policy : ℕ → List ℕ → Expression
    evaluated : ℕ → List ℕ → Expression
    negation : ℕ → Expression → Expression
    opposite : ℕ → Expression → Expression
    binary : ℕ → Operator → Expression → Expression → Expression
    among : ℕ → Expression → Expressions → Expression
    call : ℕ → Callee → Expressions → Expression

  pub data Expressions : Type 0 where
    no_more : Expressions
    one_more : Expression → Expressions → Expressions

-- these expressions, as the members of an `in` or the arguments of a call
abbrev pub expressions_of : List Expression → Expressions
expressions_of [] = no_more
expressions_of (e ∷ es) = one_more e (expressions_of es)

-- how many they are
abbrev pub count : Expressions → ℕ
count no_more = 0
count (one_more e es) = 1 + count es

-- where the root of an expression stands
abbrev pub place : Expression → ℕ
place (text at bytes) = at
place (whole at n) = at
place (truth at b) = at
place (request at column path) = at
place (policy at column) = at
place (evaluated at column) = at
place (negation at e) = at
place (opposite at e) = at
place (binary at op e f) = at
place (among at e es) = at
place (call at callee es) = at

-- how many nodes an expression has: each literal, name, operator, `in` and call, also that of `eval`, is one
abbrev mutual
  pub nodes : Expression → ℕ
  nodes (text at bytes) = 1
  nodes (whole at n) = 1
  nodes (truth at b) = 1
  nodes (request at column path) = 1
  nodes (policy at column) = 1
  nodes (evaluated at column) = 1
  nodes (negation at e) = 1 + nodes e
  nodes (opposite at e) = 1 + nodes e
  nodes (binary at op e f) = 1 + nodes e + nodes f
  nodes (among at e es) = 1 + nodes e + all_nodes es
  nodes (call at callee es) = 1 + all_nodes es

  pub all_nodes : Expressions → ℕ
  all_nodes no_more = 0
  all_nodes (one_more e es) = nodes e + all_nodes es

-- a node of the expression passes the test: its root, or one below it
abbrev mutual
  pub some_node : (Expression → Bool) → Expression → Bool
  some_node test (text at bytes) = test (text at bytes)
  some_node test (whole at n) = test (whole at n)
  some_node test (truth at b) = test (truth at b)
  some_node test (request at column path) = test (request at column path)
  some_node test (policy at column) = test (policy at column)
  some_node test (evaluated at column) = test (evaluated at column)
  some_node test (negation at e) = test (negation at e) || some_node test e
  some_node test (opposite at e) = test (opposite at e) || some_node test e
  some_node test (binary at op e f) = test (binary at op e f) || (some_node test e || some_node test f)
  some_node test (among at e es) = test (among at e es) || (some_node test e || among_some test es)
  some_node test (call at callee es) = test (call at callee es) || among_some test es

  pub among_some : (Expression → Bool) → Expressions → Bool
  among_some test no_more = false
  among_some test (one_more e es) = some_node test e || among_some test es

-- one level of a tree, with each tree inside already seen as its expression
abbrev pub expression_step : Tree-F Expression → Expression
expression_step (Tree-F.Text at bytes) = text at bytes
expression_step (Tree-F.Whole at n) = whole at n
expression_step (Tree-F.Truth at b) = truth at b
expression_step (Tree-F.Request at column path) = request at column path.items
expression_step (Tree-F.Policy at column) = policy at column
expression_step (Tree-F.Eval at column) = evaluated at column
expression_step (Tree-F.Not at e) = negation at e.value
expression_step (Tree-F.Negate at e) = opposite at e.value
expression_step (Tree-F.Binary at op e f) = binary at op e.value f.value
expression_step (Tree-F.Among at e es) = among at e.value (expressions_of es.items)
expression_step (Tree-F.Call at f es) = call at (function f) (expressions_of es.items)
expression_step (Tree-F.Role at n es) = call at (relation n) (expressions_of es.items)

-- the expression of a tree
abbrev pub expression : Tree → Expression
expression = fold-Tree Expression expression_step
