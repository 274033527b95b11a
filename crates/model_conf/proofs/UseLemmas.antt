-- The first use that is not declared, in parts of a matcher one after the other.
use Rattle.std.proofs.Common.{◌≡◌, ℕ, ◌+◌, ◌<◌, ◌≤◌, ◌==◌, ◌&&◌, Bool, true, false, not, cond, List, [], ◌∷◌, ◌++◌, length, map, drop, get_or, ltb, Option, Some, None, refl, sym, ap, ◌∙◌, arith, drop-cons}
use Rattle.std.specs.Prelude.{option_map, filter, position}
use Rattle.std.specs.List.{list_any}
use Rattle.std.specs.Str.{bytes_eq}
use Rattle.std.proofs.lemmas.Bool.{ltb-true, ltb-false}
use Rattle.std.proofs.lemmas.List.{drop_all}
use Rattle.std.proofs.lemmas.List.Elements.{filter-append}
use Rattle.std.proofs.lemmas.List.Folds.{list_any_at}
use Rattle.std.proofs.lemmas.List.Quantifiers.{position-Some}
use Rattle.std.proofs.Math.Numerals.{add-one}
use Rattle.text_parts.proofs.CallerLemmas.{position-None}
use Rattle.matcher_read.specs.Expression.{Expression, count, expression, expressions_of}
use Rattle.matcher_read.specs.declared.tree.Tree.{Tree}
use Rattle.perm_base.specs.declared.shapes.RoleShape.{RoleShape}
use Rattle.model_conf.specs.Helps.Misuses.{misuse_of, misuse_place, earlier, column_misuse, role_misuse}
use Rattle.model_conf.specs.Uses.{Use, of_request, of_policy, of_relation, uses, all_uses, names_of, is_declared, place_of, sooner, first_by_place, first_undeclared}
use Rattle.model_conf.specs.declared.uses.Misuse.{Misuse}
use Rattle.model_conf.specs.declared.uses.Misuse.TheVariants.{Column, Role}

-- the misuse of the first use that is not declared
abbrev pub misuse_in : List (List ℕ) → List (List ℕ) → List RoleShape → List Use → Option Misuse
misuse_in requests policies relations all = option_map misuse_of (first_undeclared requests policies relations all)

misuse_place-of : (u : Use) → misuse_place (misuse_of u) ≡ place_of u
misuse_place-of (of_request at column) = refl
misuse_place-of (of_policy at column) = refl
misuse_place-of (of_relation at number names) = refl

-- ---- the earlier of two

pub earlier-none : (first : Option Misuse) → earlier first None ≡ first
earlier-none None = refl
earlier-none (Some m) = refl

earlier_by : (a b c : Misuse) (ba cb ca : Bool) → ltb (misuse_place b) (misuse_place a) ≡ ba → ltb (misuse_place c) (misuse_place b) ≡ cb → ltb (misuse_place c) (misuse_place a) ≡ ca
    → earlier (earlier (Some a) (Some b)) (Some c) ≡ earlier (Some a) (earlier (Some b) (Some c))
earlier_by a b c true true true eb ec ea = rw (eb, ec) (rw ea refl)
earlier_by a b c true true false eb ec ea = absurd (omega (arith, ltb-true _ _ eb, ltb-true _ _ ec, ltb-false _ _ ea))
earlier_by a b c true false ca eb ec ea = rw (eb, ec) (rw eb refl)
earlier_by a b c false true true eb ec ea = rw (eb, ec) (rw ea refl)
earlier_by a b c false true false eb ec ea = rw (eb, ec) (rw ea refl)
earlier_by a b c false false true eb ec ea = absurd (omega (arith, ltb-false _ _ eb, ltb-false _ _ ec, ltb-true _ _ ea))
earlier_by a b c false false false eb ec ea = rw (eb, ec) (rw (eb, ea) refl)

pub earlier-earlier : (a b c : Option Misuse) → earlier (earlier a b) c ≡ earlier a (earlier b c)
earlier-earlier None b c = refl
earlier-earlier (Some a) None c = refl
earlier-earlier (Some a) (Some b) None = earlier-none (earlier (Some a) (Some b))
earlier-earlier (Some a) (Some b) (Some c) = earlier_by a b c (ltb (misuse_place b) (misuse_place a)) (ltb (misuse_place c) (misuse_place b)) (ltb (misuse_place c) (misuse_place a)) refl refl refl

-- ---- uses one after the other

first_cons : (u : Use) (others : Option Use) → option_map misuse_of (Some (sooner u others)) ≡ earlier (Some (misuse_of u)) (option_map misuse_of others)
first_cons u None = refl
first_cons u (Some v) = rw (misuse_place-of u, misuse_place-of v) (by_test u v (ltb (place_of v) (place_of u)))
  where
    by_test : (u v : Use) (test : Bool) → option_map misuse_of (Some (cond test v u)) ≡ cond test (Some (misuse_of v)) (Some (misuse_of u))
    by_test u v true = refl
    by_test u v false = refl

first-append : (us vs : List Use) → option_map misuse_of (first_by_place (us ++ vs)) ≡ earlier (option_map misuse_of (first_by_place us)) (option_map misuse_of (first_by_place vs))
first-append [] vs = refl
first-append (u ∷ us) vs =
    first_cons u (first_by_place (us ++ vs)) ∙ ap (earlier (Some (misuse_of u))) (first-append us vs) ∙ sym (earlier-earlier (Some (misuse_of u)) (option_map misuse_of (first_by_place us)) (option_map misuse_of (first_by_place vs)))
    ∙ ap (λ (o : Option Misuse). earlier o (option_map misuse_of (first_by_place vs))) (sym (first_cons u (first_by_place us)))

pub misuse_in-append : (requests policies : List (List ℕ)) (relations : List RoleShape) (us vs : List Use) → misuse_in requests policies relations (us ++ vs) ≡ earlier (misuse_in requests policies relations us) (misuse_in requests policies relations vs)
unfolding first_undeclared
misuse_in-append requests policies relations us vs =
    ap (λ (l : List Use). option_map misuse_of (first_by_place l)) (filter-append (λ (u : Use). not (is_declared requests policies relations u)) us vs)
    ∙ first-append (filter (λ (u : Use). not (is_declared requests policies relations u)) us) (filter (λ (u : Use). not (is_declared requests policies relations u)) vs)

pub misuse_in-none : (requests policies : List (List ℕ)) (relations : List RoleShape) → misuse_in requests policies relations [] ≡ None
unfolding first_undeclared
misuse_in-none requests policies relations = refl

-- ---- one use

pub misuse_in-request : (requests policies : List (List ℕ)) (relations : List RoleShape) (at : ℕ) (column : List ℕ) → misuse_in requests policies relations (of_request at column ∷ []) ≡ column_misuse requests at column
unfolding first_undeclared
misuse_in-request requests policies relations at column = elim (list_any (bytes_eq column) requests) as (λ b. option_map misuse_of (first_by_place (cond (not b) (of_request at column ∷ []) [])) ≡ cond b None (Some (Column at))) [ true ↦ refl | false ↦ refl ]

pub misuse_in-policy : (requests policies : List (List ℕ)) (relations : List RoleShape) (at : ℕ) (column : List ℕ) → misuse_in requests policies relations (of_policy at column ∷ []) ≡ column_misuse policies at column
unfolding first_undeclared
misuse_in-policy requests policies relations at column = elim (list_any (bytes_eq column) policies) as (λ b. option_map misuse_of (first_by_place (cond (not b) (of_policy at column ∷ []) [])) ≡ cond b None (Some (Column at))) [ true ↦ refl | false ↦ refl ]

-- a column of the policy, named by itself or by `eval`
pub policy_misuse : (requests policies : List (List ℕ)) (relations : List RoleShape) (tree : Tree) (at : ℕ) (column text : List ℕ) (result : Option Misuse) → uses (expression tree) ≡ of_policy at column ∷ [] → text ≡ column → result ≡ column_misuse policies at text → result ≡ misuse_in requests policies relations (uses (expression tree))
policy_misuse requests policies relations tree at column text result named same told =
    told ∙ ap (column_misuse policies at) same ∙ sym (misuse_in-policy requests policies relations at column) ∙ ap (misuse_in requests policies relations) (sym named)

pub misuse_in-role : (requests policies : List (List ℕ)) (relations : List RoleShape) (at number names : ℕ) → misuse_in requests policies relations (of_relation at number names ∷ []) ≡ role_misuse relations at number names
unfolding first_undeclared
misuse_in-role requests policies relations at number names = elim (list_any (λ (shape : RoleShape). shape.number == number && names == names_of shape) relations) as (λ b. option_map misuse_of (first_by_place (cond (not b) (of_relation at number names ∷ []) [])) ≡ cond b None (Some (Role at))) [ true ↦ refl | false ↦ refl ]

pub count-expressions_of : (es : List Expression) → count (expressions_of es) ≡ length es
count-expressions_of [] = refl
count-expressions_of (e ∷ es) = omega (arith, count-expressions_of es)

-- ---- lists of trees

-- what some trees name
abbrev pub uses_of : List Tree → List Use
uses_of trees = all_uses (expressions_of (map expression trees))

pub misuse_more : (requests policies : List (List ℕ)) (relations : List RoleShape) (trees : List Tree) (d : Tree) (at : ℕ) (first found : Option Misuse) → at < length trees → found ≡ misuse_in requests policies relations (uses (expression (get_or trees at d)))
    → earlier (earlier first found) (misuse_in requests policies relations (uses_of (drop (at + 1) trees))) ≡ earlier first (misuse_in requests policies relations (uses_of (drop at trees)))
misuse_more requests policies relations trees d at first found within is =
    let rest = misuse_in requests policies relations (uses_of (drop (at + 1) trees)) in
    let here : uses_of (drop at trees) ≡ uses (expression (get_or trees at d)) ++ uses_of (drop (at + 1) trees) = rw (add-one, drop-cons trees at d within) refl in
    earlier-earlier first found rest ∙ ap (earlier first) (ap (λ (o : Option Misuse). earlier o rest) is ∙ sym (misuse_in-append requests policies relations (uses (expression (get_or trees at d))) (uses_of (drop (at + 1) trees))) ∙ ap (misuse_in requests policies relations) (sym here))

-- before the first of some trees, and behind the last
pub misuse_begin : (requests policies : List (List ℕ)) (relations : List RoleShape) (first : Option Misuse) (us whole : List Use) (trees items : List Tree) → first ≡ misuse_in requests policies relations us → items ≡ trees → whole ≡ us ++ uses_of trees
    → earlier first (misuse_in requests policies relations (uses_of items)) ≡ misuse_in requests policies relations whole
misuse_begin requests policies relations first us whole trees items is same all =
    ap (λ (o : Option Misuse). earlier o (misuse_in requests policies relations (uses_of items))) is ∙ ap (λ (l : List Tree). earlier (misuse_in requests policies relations us) (misuse_in requests policies relations (uses_of l))) same
    ∙ sym (misuse_in-append requests policies relations us (uses_of trees)) ∙ ap (misuse_in requests policies relations) (sym all)

pub misuse_end : (requests policies : List (List ℕ)) (relations : List RoleShape) (first whole : Option Misuse) (items : List Tree) (at : ℕ) → length items ≤ at → earlier first (misuse_in requests policies relations (uses_of (drop at items))) ≡ whole → first ≡ whole
misuse_end requests policies relations first whole items at past so_far =
    sym (earlier-none first) ∙ ap (earlier first) (sym (misuse_in-none requests policies relations) ∙ ap (λ (l : List Tree). misuse_in requests policies relations (uses_of l)) (sym (drop_all at items past))) ∙ so_far

pub misuse_step : (requests policies : List (List ℕ)) (relations : List RoleShape) (trees : List Tree) (d : Tree) (at : ℕ) (first found now whole : Option Misuse) → at < length trees → found ≡ misuse_in requests policies relations (uses (expression (get_or trees at d))) → now ≡ earlier first found
    → earlier first (misuse_in requests policies relations (uses_of (drop at trees))) ≡ whole → earlier now (misuse_in requests policies relations (uses_of (drop (at + 1) trees))) ≡ whole
misuse_step requests policies relations trees d at first found now whole within is step so_far =
    ap (λ (m : Option Misuse). earlier m (misuse_in requests policies relations (uses_of (drop (at + 1) trees)))) step ∙ misuse_more requests policies relations trees d at first found within is ∙ so_far

-- ---- one column

pub column_found : (columns : List (List ℕ)) (at : ℕ) (name column : List ℕ) (place : ℕ) → name ≡ column → Some place ≡ position (bytes_eq name) columns → None ≡ column_misuse columns at column
column_found columns at name column place same e =
    let found = position-Some (bytes_eq name) columns place [] (sym e) in
    let any : list_any (bytes_eq column) columns ≡ true = ap (λ (n : List ℕ). list_any (bytes_eq n) columns) (sym same) ∙ list_any_at (bytes_eq name) columns place [] found.0 found.1 in
    rw any refl

pub column_lacks : (columns : List (List ℕ)) (at : ℕ) (name column : List ℕ) → name ≡ column → None ≡ position (bytes_eq name) columns → Some (Column at) ≡ column_misuse columns at column
column_lacks columns at name column same e =
    let none : list_any (bytes_eq column) columns ≡ false = ap (λ (n : List ℕ). list_any (bytes_eq n) columns) (sym same) ∙ position-None (bytes_eq name) columns (sym e) in
    rw none refl
