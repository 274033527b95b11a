-- The names that a role question is asked with, as a list of trees.
use Rattle.std.proofs.Common.{◌≡◌, ◌≢◌, ◌⊎◌, inl, inr, ℕ, ◌<◌, ◌≤◌, ◌==◌, ◌&&◌, ◌||◌, Bool, true, false, List, [], ◌∷◌, length, map, None, Vec, Global, refl, sym, ap, ◌∙◌, arith}
use Rattle.std.proofs.lemmas.Bool.{ne_eqb}
use Rattle.std.proofs.lemmas.Bool.Decides.{nat_tests}
use Rattle.std.proofs.lemmas.List.{length-map}
use Rattle.matcher_read.specs.Expression.{Expression, call, count, expression, expression_step, expressions_of, function, relation}
use Rattle.matcher_read.specs.declared.tree.Function.{Function}
use Rattle.matcher_read.specs.declared.tree.Tree.{Tree, Tree-F, fold-roll-Tree}
use Rattle.matcher_read.specs.declared.tree.Tree.TheVariants as t
use Rattle.decision.specs.Plans.{are_asked, are_names, fitted, questioned}

count_of : (es : List Expression) → count (expressions_of es) ≡ length es
count_of [] = refl
count_of (e ∷ es) = omega (arith, count_of es)

-- how many the trees are
count_trees : (trees : List Tree) → count (expressions_of (map expression trees)) ≡ length trees
count_trees trees = count_of (map expression trees) ∙ length-map trees expression

two_or_three : (n : ℕ) → 2 ≤ n → n ≤ 3 → (n == 2 || n == 3) ≡ true
two_or_three n low high = grind (arith, nat_tests)

fewer : (n : ℕ) → n < 2 → (n == 2 || n == 3) ≡ false
fewer n few = grind (arith, nat_tests)

more : (n : ℕ) → 3 < n → (n == 2 || n == 3) ≡ false
more n many = grind (arith, nat_tests)

asked_by : (trees : List Tree) (b : Bool) → (length trees == 2 || length trees == 3) ≡ b → are_asked (expressions_of (map expression trees)) ≡ (b && are_names (expressions_of (map expression trees)))
asked_by trees b is = ap (λ (c : Bool). c && are_names (expressions_of (map expression trees))) (ap (λ (n : ℕ). n == 2 || n == 3) (count_trees trees) ∙ is)

pub few_asked : (trees : List Tree) → length trees < 2 → false ≡ are_asked (expressions_of (map expression trees))
few_asked trees few = sym (asked_by trees false (fewer (length trees) few))

pub many_asked : (trees : List Tree) → 3 < length trees → false ≡ are_asked (expressions_of (map expression trees))
many_asked trees many = sym (asked_by trees false (more (length trees) many))

pub asked_with : (trees : List Tree) (names : Bool) → 2 ≤ length trees → length trees ≤ 3 → names ≡ are_names (expressions_of (map expression trees)) → names ≡ are_asked (expressions_of (map expression trees))
asked_with trees names low high are = are ∙ sym (asked_by trees true (two_or_three (length trees) low high))

-- two names
pub two_with : (trees : List Tree) (names : Bool) → length trees ≡ 2 → names ≡ are_names (expressions_of (map expression trees)) → names ≡ (count (expressions_of (map expression trees)) == 2 && are_names (expressions_of (map expression trees)))
two_with trees names two are = are ∙ sym (ap (λ (n : ℕ). n == 2 && are_names (expressions_of (map expression trees))) (count_trees trees ∙ two))

pub two_without : (trees : List Tree) → length trees ≢ 2 → (length trees == 2) ≡ (count (expressions_of (map expression trees)) == 2 && are_names (expressions_of (map expression trees)))
two_without trees others =
    ne_eqb (length trees) 2 others ∙ sym (ap (λ (b : Bool). b && are_names (expressions_of (map expression trees))) (ap (λ (n : ℕ). n == 2) (count_trees trees) ∙ ne_eqb (length trees) 2 others))

-- a call of other than two names has no pattern
pub no_pair : (tree : Tree) (at : ℕ) (called : Function) (trees : Vec Tree Global) (items : List Tree) → tree ≡ t.Call at called trees → items ≡ trees.items → (length items < 2) ⊎ (3 ≤ length items) → None ≡ fitted (expression tree)
no_pair tree at called trees items is items_are others =
    sym (ap fitted (ap expression is ∙ ap expression (sym (t.rolls-Call at called trees)) ∙ fold-roll-Tree Expression expression_step (Tree-F.Call at called trees) ∙ ap (λ (ts : List Tree). call at (function called) (expressions_of (map expression ts))) (sym items_are)) ∙ by items others)
  where
    by : (ts : List Tree) → (length ts < 2) ⊎ (3 ≤ length ts) → fitted (call at (function called) (expressions_of (map expression ts))) ≡ None
    by [] others = refl
    by (a ∷ []) others = refl
    by (a ∷ b ∷ []) (inl few) = absurd (omega (arith, few))
    by (a ∷ b ∷ []) (inr many) = absurd (omega (arith, many))
    by (a ∷ b ∷ c ∷ ts) others = refl

-- a role question of other than two or three names asks nothing
pub no_question : (tree : Tree) (at number : ℕ) (trees : Vec Tree Global) (items : List Tree) → tree ≡ t.Role at number trees → items ≡ trees.items → (length items < 2) ⊎ (4 ≤ length items) → None ≡ questioned (expression tree)
no_question tree at number trees items is items_are others =
    sym (ap questioned (ap expression is ∙ ap expression (sym (t.rolls-Role at number trees)) ∙ fold-roll-Tree Expression expression_step (Tree-F.Role at number trees) ∙ ap (λ (ts : List Tree). call at (relation number) (expressions_of (map expression ts))) (sym items_are)) ∙ by items others)
  where
    by : (ts : List Tree) → (length ts < 2) ⊎ (4 ≤ length ts) → questioned (call at (relation number) (expressions_of (map expression ts))) ≡ None
    by [] others = refl
    by (a ∷ []) others = refl
    by (a ∷ b ∷ []) (inl few) = absurd (omega (arith, few))
    by (a ∷ b ∷ []) (inr many) = absurd (omega (arith, many))
    by (a ∷ b ∷ c ∷ []) (inl few) = absurd (omega (arith, few))
    by (a ∷ b ∷ c ∷ []) (inr many) = absurd (omega (arith, many))
    by (a ∷ b ∷ c ∷ d ∷ ts) others = refl
