-- The nodes of a matcher, and those that a linter looks at.
use Rattle.std.specs.Prelude.{ℕ, List, [], ◌∷◌, ◌++◌, Option, Some, None, flat_map, position}
use Rattle.std.specs.Option.{option_and_then}
use Rattle.std.specs.Str.{bytes_eq}
use Rattle.matcher_read.specs.Expression.{function, Expression, text, whole, truth, request, policy, evaluated, negation, opposite, binary, among, call, Expressions, no_more, one_more}
use Rattle.matcher_read.specs.declared.tree.Function.{Function}
use Rattle.matcher_read.specs.declared.tree.Function.TheVariants as f
use Rattle.model_conf.specs.ModelText.{ModelParts}
use Rattle.file_lint.specs.declared.nodes.Held.{Held}
use Rattle.file_lint.specs.declared.nodes.Held.TheVariants.{Block, KeyPattern, RuleText}
use Rattle.file_lint.specs.declared.nodes.Looked.{Looked}

-- all nodes, each before those below it
abbrev mutual
  pub nodes_of : Expression → List Expression
  nodes_of (text at bytes) = text at bytes ∷ []
  nodes_of (whole at n) = whole at n ∷ []
  nodes_of (truth at b) = truth at b ∷ []
  nodes_of (request at column path) = request at column path ∷ []
  nodes_of (policy at column) = policy at column ∷ []
  nodes_of (evaluated at column) = evaluated at column ∷ []
  nodes_of (negation at e) = negation at e ∷ nodes_of e
  nodes_of (opposite at e) = opposite at e ∷ nodes_of e
  nodes_of (binary at op e g) = binary at op e g ∷ nodes_of e ++ nodes_of g
  nodes_of (among at e es) = among at e es ∷ nodes_of e ++ all_nodes_of es
  nodes_of (call at callee es) = call at callee es ∷ all_nodes_of es

  pub all_nodes_of : Expressions → List Expression
  all_nodes_of no_more = []
  all_nodes_of (one_more e es) = nodes_of e ++ all_nodes_of es

-- a column of p, by its place, and what the matcher takes its fields for
abbrev pub looked : ℕ → Held → Looked
looked at held = record { at = at; held = held }

-- what a function takes its second argument for
abbrev pub held_by : Function → Option Held
held_by f.IpMatch = Some Block
held_by f.KeyMatch2 = Some KeyPattern
held_by _ = None

-- the place of a column among those of p
abbrev pub column_place : List (List ℕ) → List ℕ → Option ℕ
column_place columns name = position (bytes_eq name) columns

-- the first and the second of some expressions
abbrev pub first_of : Expressions → Option Expression
first_of no_more = None
first_of (one_more e es) = Some e

abbrev pub second_of : Expressions → Option Expression
second_of no_more = None
second_of (one_more e es) = first_of es

-- the place of the column of p that an expression is
abbrev pub policy_place : List (List ℕ) → Expression → Option ℕ
policy_place columns (policy at column) = column_place columns column
policy_place columns _ = None

-- the place of the second argument of a call, where it is a column of p
abbrev pub second_column : List (List ℕ) → Expressions → Option ℕ
second_column columns es = option_and_then (policy_place columns) (second_of es)

-- both, where they are told
abbrev pub looked_both : Option ℕ → Option Held → List Looked
looked_both None held = []
looked_both (Some at) None = []
looked_both (Some at) (Some held) = looked at held ∷ []

-- the column that a node takes for something
abbrev pub looked_at : List (List ℕ) → Expression → List Looked
looked_at columns (evaluated at column) = looked_both (column_place columns column) (Some RuleText)
looked_at columns (call at (function called) es) = looked_both (second_column columns es) (held_by called)
looked_at columns _ = []

-- the columns that a matcher takes for something, in the order of its nodes
abbrev pub looked_in : ModelParts → List Looked
looked_in model = flat_map (looked_at model.policy) (nodes_of model.matcher)
