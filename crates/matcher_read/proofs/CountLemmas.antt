-- The nodes of what derives, by its tokens.
use Rattle.std.proofs.Common.{◌≡◌, ℕ, ◌+◌, Bool, false, cond, List, [], ◌∷◌, ◌++◌, codes, refl, ap, ◌∙◌, arith}
use Rattle.matcher_read.specs.Helps.Counts.{is_node, node_count}
use Rattle.matcher_read.specs.Expression.{Expression, Expressions, nodes, all_nodes}
use Rattle.matcher_read.specs.Grammar.{Rule, Derives, DerivesList, by_part, by_join, by_comparison, by_members, by_negation, by_opposite, by_call, by_parentheses, by_last, by_more}
use Rattle.matcher_read.specs.Tokens.{Placed, placed}
use Rattle.matcher_read.specs.Tokens as token

pub node_count-append : (ts us : List Placed) → node_count (ts ++ us) ≡ node_count ts + node_count us
node_count-append [] us = omega arith
node_count-append (t ∷ ts) us = omega (arith, node_count-append ts us)

-- round a token, and before a last one
count_join : (left right ts : List Placed) (t : Placed) → ts ≡ left ++ t ∷ right → node_count ts ≡ node_count left + (cond (is_node t.token) 1 0 + node_count right)
count_join left right ts t e = ap node_count e ∙ node_count-append left (t ∷ right)

count_last : (front ts : List Placed) (t : Placed) → ts ≡ front ++ t ∷ [] → is_node t.token ≡ false → node_count ts ≡ node_count front
count_last front ts t e h = omega (arith, ap node_count e, node_count-append front (t ∷ []), ap {B = ℕ} (λ (b : Bool). cond b 1 0) h)

mutual
  pub nodes_derived : {n : ℕ} {rule : Rule} {ts : List Placed} {e : Expression} → Derives n rule ts e → nodes e ≡ node_count ts
  nodes_derived (by_part i d) = nodes_derived d
  nodes_derived (by_join {at = at} {o = o} {tokens = ts} {left = left} {right = right} j i d k same) = omega (arith, nodes_derived d, nodes_derived k, count_join left right ts (placed at (token.operator o)) same)
  nodes_derived (by_comparison {at = at} {o = o} {tokens = ts} {left = left} {right = right} c d k same) = omega (arith, nodes_derived d, nodes_derived k, count_join left right ts (placed at (token.operator o)) same)
  nodes_derived (by_members at_opening at_closing {at = at} {tokens = ts} {left = left} {members = inside} d ds same) =
      let front = left ++ placed at (token.name (codes "in" ∷ [])) ∷ placed at_opening token.opening ∷ inside in
      omega (arith, nodes_derived d, list_nodes_derived ds, count_last front ts (placed at_closing token.closing) same refl, node_count-append left (placed at (token.name (codes "in" ∷ [])) ∷ placed at_opening token.opening ∷ inside))
  nodes_derived (by_negation d) = omega (arith, nodes_derived d)
  nodes_derived (by_opposite d) = omega (arith, nodes_derived d)
  nodes_derived (by_call at_opening at_closing {at = at} {parts = names} {tokens = ts} {arguments = inside} ds same) =
      omega (arith, list_nodes_derived ds, count_last (placed at (token.called names) ∷ placed at_opening token.opening ∷ inside) ts (placed at_closing token.closing) same refl)
  nodes_derived (by_parentheses at_opening at_closing {tokens = ts} {inside = inside} d same) =
      omega (arith, nodes_derived d, count_last (placed at_opening token.opening ∷ inside) ts (placed at_closing token.closing) same refl)
  nodes_derived _ = refl

  pub list_nodes_derived : {n : ℕ} {ts : List Placed} {es : Expressions} → DerivesList n ts es → all_nodes es ≡ node_count ts
  list_nodes_derived (by_last d) = omega (arith, nodes_derived d)
  list_nodes_derived (by_more at {tokens = ts} {first = first} {others = others} d ds same) = omega (arith, nodes_derived d, list_nodes_derived ds, count_join first others ts (placed at token.comma) same)
