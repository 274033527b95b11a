-- The expressions of trees, one level at a time.
use Rattle.std.proofs.Common.{◌≡◌, ℕ, ℤ, ◌⊎◌, inl, inr, Bool, List, [], ◌∷◌, map, Vec, Box, Global, sym, ap, ◌∙◌}
use Rattle.matcher_read.specs.Expression.{Expression, expression, expression_step, expressions_of, text, whole, truth, request, policy, evaluated, binary, among, call, relation}
use Rattle.matcher_read.specs.declared.tree.Operator.{Operator}
use Rattle.matcher_read.specs.declared.tree.Tree.{Tree, Tree-F, fold-roll-Tree}
use Rattle.matcher_read.specs.declared.tree.Tree.TheVariants as t
use Rattle.model_conf.specs.Uses.{uses, of_policy}

pub expression-Text : (at : ℕ) (bytes : List ℕ) → expression (t.Text at bytes) ≡ text at bytes
expression-Text at bytes = ap expression (sym (t.rolls-Text at bytes)) ∙ fold-roll-Tree Expression expression_step (Tree-F.Text at bytes)

pub expression-Whole : (at : ℕ) (n : ℤ) → expression (t.Whole at n) ≡ whole at n
expression-Whole at n = ap expression (sym (t.rolls-Whole at n)) ∙ fold-roll-Tree Expression expression_step (Tree-F.Whole at n)

pub expression-Truth : (at : ℕ) (b : Bool) → expression (t.Truth at b) ≡ truth at b
expression-Truth at b = ap expression (sym (t.rolls-Truth at b)) ∙ fold-roll-Tree Expression expression_step (Tree-F.Truth at b)

pub expression-Request : (at : ℕ) (column : List ℕ) (path : Vec (List ℕ) Global) → expression (t.Request at column path) ≡ request at column path.items
expression-Request at column path = ap expression (sym (t.rolls-Request at column path)) ∙ fold-roll-Tree Expression expression_step (Tree-F.Request at column path)

pub expression-Policy : (at : ℕ) (column : List ℕ) → expression (t.Policy at column) ≡ policy at column
expression-Policy at column = ap expression (sym (t.rolls-Policy at column)) ∙ fold-roll-Tree Expression expression_step (Tree-F.Policy at column)

pub expression-Eval : (at : ℕ) (column : List ℕ) → expression (t.Eval at column) ≡ evaluated at column
expression-Eval at column = ap expression (sym (t.rolls-Eval at column)) ∙ fold-roll-Tree Expression expression_step (Tree-F.Eval at column)

pub expression-Binary : (at : ℕ) (op : Operator) (left right : Box Tree Global) → expression (t.Binary at op left right) ≡ binary at op (expression left.value) (expression right.value)
expression-Binary at op left right = ap expression (sym (t.rolls-Binary at op left right)) ∙ fold-roll-Tree Expression expression_step (Tree-F.Binary at op left right)

pub expression-Among : (at : ℕ) (value : Box Tree Global) (members : Vec Tree Global) → expression (t.Among at value members) ≡ among at (expression value.value) (expressions_of (map expression members.items))
expression-Among at value members = ap expression (sym (t.rolls-Among at value members)) ∙ fold-roll-Tree Expression expression_step (Tree-F.Among at value members)

pub expression-Role : (at number : ℕ) (arguments : Vec Tree Global) → expression (t.Role at number arguments) ≡ call at (relation number) (expressions_of (map expression arguments.items))
expression-Role at number arguments = ap expression (sym (t.rolls-Role at number arguments)) ∙ fold-roll-Tree Expression expression_step (Tree-F.Role at number arguments)

-- a literal names nothing
pub literal_uses : (tree : Tree) → ((at : ℕ) × (bytes : List ℕ) × (tree ≡ t.Text at bytes)) ⊎ (((at : ℕ) × (n : ℤ) × (tree ≡ t.Whole at n)) ⊎ ((at : ℕ) × (b : Bool) × (tree ≡ t.Truth at b))) → uses (expression tree) ≡ []
literal_uses tree (inl is) = ap uses (ap expression is.2 ∙ expression-Text is.0 is.1)
literal_uses tree (inr (inl is)) = ap uses (ap expression is.2 ∙ expression-Whole is.0 is.1)
literal_uses tree (inr (inr is)) = ap uses (ap expression is.2 ∙ expression-Truth is.0 is.1)

-- a column of the policy is named by itself or by `eval`
pub policy_uses : (tree : Tree) (at : ℕ) (column : List ℕ) → (tree ≡ t.Policy at column) ⊎ (tree ≡ t.Eval at column) → uses (expression tree) ≡ of_policy at column ∷ []
policy_uses tree at column (inl is) = ap uses (ap expression is ∙ expression-Policy at column)
policy_uses tree at column (inr is) = ap uses (ap expression is ∙ expression-Eval at column)
