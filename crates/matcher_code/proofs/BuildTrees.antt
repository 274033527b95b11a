-- The walk over a tree, a node at a time: what is pushed for its parts is the code of its expression.
use Rattle.std.proofs.Common.{◌≡◌, ℕ, ◌+◌, ◌<◌, List, [], ◌∷◌, ◌++◌, length, map, drop, get_or, Option, Some, None, Result, Vec, Box, Global, refl, sym, ap, ◌∙◌, arith}
use Rattle.std.specs.Prelude.{OnOk, unwrap_or}
use Rattle.std.proofs.lemmas.List.{append_assoc, drop_more, length-append, length-map}
use Rattle.std.proofs.lemmas.Result.{on_ok_weaker}
use Rattle.matcher_read.specs.Expression.{Expression, expression, expression_step, expressions_of, request, negation, opposite, binary, among, call, function, relation, Expressions, no_more, one_more, count, place}
use Rattle.matcher_read.specs.declared.tree.Function.{Function}
use Rattle.matcher_read.specs.declared.tree.Operator.{Operator}
use Rattle.matcher_read.specs.declared.tree.Tree.{Tree, Tree-F, fold-roll-Tree}
use Rattle.matcher_read.specs.declared.tree.Tree.TheVariants as t
use Rattle.model_conf.specs.ModelText.{ModelParts}
use Rattle.matcher_meaning.specs.Comes.{each_at}
use Rattle.outside.specs.declared.fault.NoMemory.{NoMemory}
use Rattle.matcher_code.specs.Compiled.{op_at, column_number, attributes, skip, op_or_none, right_begins, joins, names_asked, behind, behind_members, compiled, members, arguments}
use Rattle.matcher_code.specs.Helps.Targets.{landed}
use Rattle.matcher_code.specs.Helps.NodePlaces.{placed, each_placed}
use Rattle.matcher_code.specs.declared.op.Op.{Op}
use Rattle.matcher_code.specs.declared.op.Instruction.TheVariants as i
use Rattle.matcher_code.proofs.BuildTargets.{members_land}
use Rattle.matcher_code.proofs.BuildPlaces.{ends_at, members_end_at, joined_length, skips_length}

-- ---- the expression of a tree, one level at a time, with the places that a walk gives

-- a node at its place, or at the one place for all
placed_negation : (from : Option ℕ) (own : ℕ) (e : Expression) → placed from (negation own e) ≡ negation (unwrap_or from own) (placed from e)
placed_negation None own e = refl
placed_negation (Some at) own e = refl

placed_opposite : (from : Option ℕ) (own : ℕ) (e : Expression) → placed from (opposite own e) ≡ opposite (unwrap_or from own) (placed from e)
placed_opposite None own e = refl
placed_opposite (Some at) own e = refl

placed_request : (from : Option ℕ) (own : ℕ) (column : List ℕ) (path : List (List ℕ)) → placed from (request own column path) ≡ request (unwrap_or from own) column path
placed_request None own column path = refl
placed_request (Some at) own column path = refl

placed_binary : (from : Option ℕ) (own : ℕ) (op : Operator) (e f : Expression) → placed from (binary own op e f) ≡ binary (unwrap_or from own) op (placed from e) (placed from f)
placed_binary None own op e f = refl
placed_binary (Some at) own op e f = refl

placed_among : (from : Option ℕ) (own : ℕ) (e : Expression) (es : Expressions) → placed from (among own e es) ≡ among (unwrap_or from own) (placed from e) (each_placed from es)
placed_among None own e es = refl
placed_among (Some at) own e es = refl

placed_function : (from : Option ℕ) (own : ℕ) (f : Function) (es : Expressions) → placed from (call own (function f) es) ≡ call (unwrap_or from own) (function f) (each_placed from es)
placed_function None own f es = refl
placed_function (Some at) own f es = refl

placed_relation : (from : Option ℕ) (own number : ℕ) (es : Expressions) → placed from (call own (relation number) es) ≡ call (unwrap_or from own) (relation number) (each_placed from es)
placed_relation None own number es = refl
placed_relation (Some at) own number es = refl

each_placed_more : (from : Option ℕ) (e : Expression) (es : Expressions) → each_placed from (one_more e es) ≡ one_more (placed from e) (each_placed from es)
each_placed_more None e es = refl
each_placed_more (Some at) e es = refl

-- the root of what is seen has the place that the walk gives it
root_at : (from : Option ℕ) (at own : ℕ) (tree : Tree) (seen : Expression) → expression tree ≡ seen → place seen ≡ own → at ≡ unwrap_or from (place (expression tree)) → unwrap_or from own ≡ at
root_at from at own tree seen is root at_is = sym (at_is ∙ ap (λ (e : Expression). unwrap_or from (place e)) is ∙ ap (unwrap_or from) root)

-- ---- what was pushed in parts

pub grown : (old a b middle new : List Op) → middle ≡ old ++ a → new ≡ middle ++ b → new ≡ old ++ (a ++ b)
grown old a b middle new first second = second ∙ ap (λ (l : List Op). l ++ b) first ∙ append_assoc old a b

-- the code of the tree, where that of what is seen was pushed
seen_code : (model : ModelParts) (from : Option ℕ) (tree : Tree) (seen : Expression) (old new : List Op) → placed from (expression tree) ≡ seen → new ≡ old ++ compiled model (length old) seen
    → new ≡ old ++ compiled model (length old) (placed from (expression tree))
seen_code model from tree seen old new is pushed = pushed ∙ ap (λ (e : Expression). old ++ compiled model (length old) e) (sym is)

count_expressions : (es : List Expression) → count (expressions_of es) ≡ length es
count_expressions [] = refl
count_expressions (e ∷ es) = omega (arith, count_expressions es)

pub count_each : (at : ℕ) (es : Expressions) → count (each_at at es) ≡ count es
count_each at no_more = refl
count_each at (one_more e es) = ap (λ (n : ℕ). 1 + n) (count_each at es)

count_of : (from : Option ℕ) (items : List Tree) → count (each_placed from (expressions_of (map expression items))) ≡ length items
count_of None items = count_expressions (map expression items) ∙ length-map items expression
count_of (Some at) items = count_each at (expressions_of (map expression items)) ∙ count_expressions (map expression items) ∙ length-map items expression

-- the right side of an operator, and what stands in front of it, which goes on behind what was pushed last
pub right_pushed : (model : ModelParts) (at : ℕ) (op : Operator) (f : Expression) (old two three new : List Op) → two ≡ old ++ op_or_none at (skip op 0) → three ≡ two ++ compiled model (length two) f
    → ((front rest : List Op) → length front ≡ length old → three ≡ front ++ (op_or_none at (skip op 0) ++ rest) → new ≡ front ++ (op_or_none at (skip op (length new)) ++ (rest ++ op_at at (joins op) ∷ [])))
    → new ≡ old ++ (op_or_none at (skip op (length new)) ++ (compiled model (right_begins op (length old)) f ++ op_at at (joins op) ∷ []))
right_pushed model at op f old two three new first second last =
    let right = compiled model (length two) f in
    let none = op_or_none at (skip op 0) in
    let two_begins : length two ≡ right_begins op (length old) = ap length first ∙ length-append old none ∙ skips_length at op 0 (length old) in
    last old right refl (second ∙ ap (λ (l : List Op). l ++ right) first ∙ append_assoc old none right)
    ∙ ap (λ (n : ℕ). old ++ (op_or_none at (skip op (length new)) ++ (compiled model n f ++ op_at at (joins op) ∷ []))) two_begins

-- both sides
sides_pushed : (model : ModelParts) (at : ℕ) (op : Operator) (e f : Expression) (old one new : List Op) → one ≡ old ++ compiled model (length old) e
    → new ≡ one ++ (op_or_none at (skip op (length new)) ++ (compiled model (right_begins op (length one)) f ++ op_at at (joins op) ∷ []))
    → new ≡ old ++ compiled model (length old) (binary at op e f)
sides_pushed model at op e f old one new first second =
    let start = length old in
    let begins = right_begins op (behind start e) in
    let to = behind start (binary at op e f) in
    let left = compiled model start e in
    let middle = right_begins op (length one) in
    let right = compiled model middle f in
    let join = op_at at (joins op) ∷ [] in
    let skips = op_or_none at (skip op (length new)) in
    let one_long : length one ≡ behind start e = ap length first ∙ length-append old left ∙ ends_at model start e in
    let middle_is : middle ≡ begins = ap (right_begins op) one_long in
    let new_long : length new ≡ to =
    ap length second ∙ length-append one (skips ++ (right ++ join))
    ∙ joined_length skips (right ++ join) (length one) middle (behind middle f + 1) (skips_length at op (length new) (length one))
    (joined_length right join middle (behind middle f) (behind middle f + 1) (ends_at model middle f) refl)
    ∙ ap (λ (n : ℕ). behind n f + 1) middle_is in
    grown old left (op_or_none at (skip op to) ++ (compiled model begins f ++ join)) one new first
    (second ∙ ap (λ (n : ℕ). one ++ (op_or_none at (skip op n) ++ (right ++ join))) new_long ∙ ap (λ (n : ℕ). one ++ (op_or_none at (skip op to) ++ (compiled model n f ++ join))) middle_is)

-- the members of an `in`, which go on behind what was pushed last
pub found_pushed : (model : ModelParts) (at : ℕ) (es : Expressions) (old two new : List Op) → two ≡ old ++ members model at 0 (length old) es
    → ((front found : List Op) → length front ≡ length old → two ≡ front ++ found → new ≡ front ++ (map (landed (length new)) found ++ op_at at i.Miss ∷ []))
    → new ≡ old ++ (members model at (length new) (length old) es ++ op_at at i.Miss ∷ [])
found_pushed model at es old two new first last =
    last old (members model at 0 (length old) es) refl first ∙ ap (λ (l : List Op). old ++ (l ++ op_at at i.Miss ∷ [])) (members_land model at (length new) (length old) es)

-- and the value in front of them
members_pushed : (model : ModelParts) (at : ℕ) (e : Expression) (es : Expressions) (old one new : List Op) → one ≡ old ++ compiled model (length old) e → new ≡ one ++ (members model at (length new) (length one) es ++ op_at at i.Miss ∷ [])
    → new ≡ old ++ compiled model (length old) (among at e es)
members_pushed model at e es old one new first second =
    let start = length old in
    let to = behind start (among at e es) in
    let left = compiled model start e in
    let miss = op_at at i.Miss ∷ [] in
    let one_long : length one ≡ behind start e = ap length first ∙ length-append old left ∙ ends_at model start e in
    let new_long : length new ≡ to =
    ap length second ∙ length-append one (members model at (length new) (length one) es ++ miss)
    ∙ joined_length (members model at (length new) (length one) es) miss (length one) (behind_members (length one) es) (behind_members (length one) es + 1) (members_end_at model at (length new) (length one) es) refl
    ∙ ap (λ (n : ℕ). behind_members n es + 1) one_long in
    grown old left (members model at to (behind start e) es ++ miss) one new first
    (second ∙ ap (λ (n : ℕ). one ++ (members model at n (length one) es ++ miss)) new_long ∙ ap (λ (n : ℕ). one ++ (members model at to n es ++ miss)) one_long)

-- ---- one node

pub if_ok : (result : Result (Unit {0}) NoMemory) (P Q : Type 0) → OnOk result P → (P → Q) → OnOk result Q
if_ok result P Q on more = on_ok_weaker {P = P} {Q = Q} result more on

module _ (model : ModelParts) (from : Option ℕ) (tree : Tree) (at own : ℕ) (old : List Op) (at_is : at ≡ unwrap_or from (place (expression tree))) where
  -- what the walk has to give
  abbrev pub IsPushed : List Op → Type 0
  IsPushed new = new ≡ old ++ compiled model (length old) (placed from (expression tree))

  pub request_pushed : (column : List ℕ) (path : Vec (List ℕ) Global) (new : List Op) → tree ≡ t.Request own column path → new ≡ old ++ (op_at at (i.Request (column_number model.request column)) ∷ attributes at path.items) → IsPushed new
  request_pushed column path new is pushed =
      let seen = ap expression is ∙ ap expression (sym (t.rolls-Request own column path)) ∙ fold-roll-Tree Expression expression_step (Tree-F.Request own column path) in
      let here : unwrap_or from own ≡ at = root_at from at own tree (request own column path.items) seen refl at_is in
      seen_code model from tree (request at column path.items) old new
      (ap (placed from) seen ∙ placed_request from own column path.items ∙ ap (λ (n : ℕ). request n column path.items) here)
      pushed

  pub negation_pushed : (child : Tree) (operand : Box Tree Global) (new : List Op) → tree ≡ t.Not own operand → child ≡ operand.value
      → new ≡ old ++ (compiled model (length old) (placed from (expression child)) ++ op_at at i.Not ∷ []) → IsPushed new
  negation_pushed child operand new is child_is pushed =
      let seen = ap expression is ∙ ap expression (sym (t.rolls-Not own operand)) ∙ fold-roll-Tree Expression expression_step (Tree-F.Not own operand) ∙ ap (λ (x : Tree). negation own (expression x)) (sym child_is) in
      let here : unwrap_or from own ≡ at = root_at from at own tree (negation own (expression child)) seen refl at_is in
      seen_code model from tree (negation at (placed from (expression child))) old new
      (ap (placed from) seen ∙ placed_negation from own (expression child) ∙ ap (λ (n : ℕ). negation n (placed from (expression child))) here)
      pushed

  pub opposite_pushed : (child : Tree) (operand : Box Tree Global) (new : List Op) → tree ≡ t.Negate own operand → child ≡ operand.value
      → new ≡ old ++ (compiled model (length old) (placed from (expression child)) ++ op_at at i.Negate ∷ []) → IsPushed new
  opposite_pushed child operand new is child_is pushed =
      let seen = ap expression is ∙ ap expression (sym (t.rolls-Negate own operand)) ∙ fold-roll-Tree Expression expression_step (Tree-F.Negate own operand) ∙ ap (λ (x : Tree). opposite own (expression x)) (sym child_is) in
      let here : unwrap_or from own ≡ at = root_at from at own tree (opposite own (expression child)) seen refl at_is in
      seen_code model from tree (opposite at (placed from (expression child))) old new
      (ap (placed from) seen ∙ placed_opposite from own (expression child) ∙ ap (λ (n : ℕ). opposite n (placed from (expression child))) here)
      pushed

  pub function_pushed : (f : Function) (items : List Tree) (trees : Vec Tree Global) (new : List Op) → tree ≡ t.Call own f trees → items ≡ trees.items
      → new ≡ old ++ (arguments model (length old) (each_placed from (expressions_of (map expression items))) ++ op_at at (i.Function f) ∷ []) → IsPushed new
  function_pushed f items trees new is items_are pushed =
      let es = each_placed from (expressions_of (map expression items)) in
      let seen = ap expression is ∙ ap expression (sym (t.rolls-Call own f trees)) ∙ fold-roll-Tree Expression expression_step (Tree-F.Call own f trees) ∙ ap (λ (xs : List Tree). call own (function f) (expressions_of (map expression xs))) (sym items_are) in
      let node = call own (function f) (expressions_of (map expression items)) in
      let here : unwrap_or from own ≡ at = root_at from at own tree node seen refl at_is in
      seen_code model from tree (call at (function f) es) old new
      (ap (placed from) seen ∙ placed_function from own f (expressions_of (map expression items)) ∙ ap (λ (n : ℕ). call n (function f) es) here)
      pushed

  pub relation_pushed : (number : ℕ) (items : List Tree) (trees : Vec Tree Global) (new : List Op) → tree ≡ t.Role own number trees → items ≡ trees.items
      → new ≡ old ++ (arguments model (length old) (each_placed from (expressions_of (map expression items))) ++ op_at at (i.Role number (names_asked (length items))) ∷ []) → IsPushed new
  relation_pushed number items trees new is items_are pushed =
      let es = each_placed from (expressions_of (map expression items)) in
      let seen = ap expression is ∙ ap expression (sym (t.rolls-Role own number trees)) ∙ fold-roll-Tree Expression expression_step (Tree-F.Role own number trees) ∙ ap (λ (xs : List Tree). call own (relation number) (expressions_of (map expression xs))) (sym items_are) in
      let node = call own (relation number) (expressions_of (map expression items)) in
      let here : unwrap_or from own ≡ at = root_at from at own tree node seen refl at_is in
      let many : names_asked (length items) ≡ names_asked (count es) = ap names_asked (sym (count_of from items)) in
      seen_code model from tree (call at (relation number) es) old new
      (ap (placed from) seen ∙ placed_relation from own number (expressions_of (map expression items)) ∙ ap (λ (n : ℕ). call n (relation number) es) here)
      (pushed ∙ ap (λ (n : ℕ). old ++ (arguments model (length old) es ++ op_at at (i.Role number n) ∷ [])) many)

  pub binary_pushed : (op : Operator) (left right : Tree) (left_box right_box : Box Tree Global) (one new : List Op) → tree ≡ t.Binary own op left_box right_box
      → left ≡ left_box.value → right ≡ right_box.value → one ≡ old ++ compiled model (length old) (placed from (expression left))
      → new ≡ one ++ (op_or_none at (skip op (length new)) ++ (compiled model (right_begins op (length one)) (placed from (expression right)) ++ op_at at (joins op) ∷ []))
      → IsPushed new
  binary_pushed op left right left_box right_box one new is left_is right_is first second =
      let e = placed from (expression left) in
      let f = placed from (expression right) in
      let seen = ap expression is ∙ ap expression (sym (t.rolls-Binary own op left_box right_box)) ∙ fold-roll-Tree Expression expression_step (Tree-F.Binary own op left_box right_box)
      ∙ ap (λ (x : Tree). binary own op (expression x) (expression right_box.value)) (sym left_is) ∙ ap (λ (x : Tree). binary own op (expression left) (expression x)) (sym right_is) in
      let node = binary own op (expression left) (expression right) in
      let here : unwrap_or from own ≡ at = root_at from at own tree node seen refl at_is in
      seen_code model from tree (binary at op e f) old new
      (ap (placed from) seen ∙ placed_binary from own op (expression left) (expression right) ∙ ap (λ (n : ℕ). binary n op e f) here)
      (sides_pushed model at op e f old one new first second)

  pub among_pushed : (value : Tree) (items : List Tree) (value_box : Box Tree Global) (trees : Vec Tree Global) (one new : List Op) → tree ≡ t.Among own value_box trees → value ≡ value_box.value → items ≡ trees.items
      → one ≡ old ++ compiled model (length old) (placed from (expression value)) → new ≡ one ++ (members model at (length new) (length one) (each_placed from (expressions_of (map expression items))) ++ op_at at i.Miss ∷ [])
      → IsPushed new
  among_pushed value items value_box trees one new is value_is items_are first second =
      let e = placed from (expression value) in
      let es = each_placed from (expressions_of (map expression items)) in
      let seen = ap expression is ∙ ap expression (sym (t.rolls-Among own value_box trees)) ∙ fold-roll-Tree Expression expression_step (Tree-F.Among own value_box trees)
      ∙ ap (λ (x : Tree). among own (expression x) (expressions_of (map expression trees.items))) (sym value_is) ∙ ap (λ (xs : List Tree). among own (expression value) (expressions_of (map expression xs))) (sym items_are) in
      let node = among own (expression value) (expressions_of (map expression items)) in
      let here : unwrap_or from own ≡ at = root_at from at own tree node seen refl at_is in
      seen_code model from tree (among at e es) old new
      (ap (placed from) seen ∙ placed_among from own (expression value) (expressions_of (map expression items)) ∙ ap (λ (n : ℕ). among n e es) here)
      (members_pushed model at e es old one new first second)

-- ---- members and arguments, one after the other

-- what is left of them
abbrev pub rest_of : Option ℕ → List Tree → ℕ → Expressions
rest_of from trees at = each_placed from (expressions_of (map expression (drop at trees)))

rest_more : (from : Option ℕ) (trees : List Tree) (at : ℕ) (tree : Tree) → at < length trees → tree ≡ get_or trees at tree → rest_of from trees at ≡ one_more (placed from (expression tree)) (rest_of from trees (at + 1))
rest_more from trees at tree within is =
    ap (λ (xs : List Tree). each_placed from (expressions_of (map expression xs))) (drop_more trees at tree within)
    ∙ ap (λ (x : Tree). each_placed from (one_more (expression x) (expressions_of (map expression (drop (at + 1) trees))))) (sym is)
    ∙ each_placed_more from (expression tree) (expressions_of (map expression (drop (at + 1) trees)))

pub arguments_more : (model : ModelParts) (from : Option ℕ) (trees : List Tree) (at : ℕ) (tree : Tree) (old new all_pushed : List Op) → at < length trees → tree ≡ get_or trees at tree
    → new ≡ old ++ compiled model (length old) (placed from (expression tree)) → old ++ arguments model (length old) (rest_of from trees at) ≡ all_pushed → new ++ arguments model (length new) (rest_of from trees (at + 1)) ≡ all_pushed
arguments_more model from trees at tree old new all_pushed within is pushed so_far =
    let e = placed from (expression tree) in
    let code = compiled model (length old) e in
    let rest = rest_of from trees (at + 1) in
    let long : length new ≡ behind (length old) e = ap length pushed ∙ length-append old code ∙ ends_at model (length old) e in
    ap (λ (l : List Op). l ++ arguments model (length new) rest) pushed ∙ append_assoc old code (arguments model (length new) rest) ∙ ap (λ (n : ℕ). old ++ (code ++ arguments model n rest)) long
    ∙ ap (λ (es : Expressions). old ++ arguments model (length old) es) (sym (rest_more from trees at tree within is)) ∙ so_far

pub members_more : (model : ModelParts) (from : Option ℕ) (trees : List Tree) (place at : ℕ) (tree : Tree) (old middle new all_pushed : List Op) → at < length trees → tree ≡ get_or trees at tree
    → middle ≡ old ++ compiled model (length old) (placed from (expression tree)) → new ≡ middle ++ op_at place (i.Member 0) ∷ []
    → old ++ members model place 0 (length old) (rest_of from trees at) ≡ all_pushed → new ++ members model place 0 (length new) (rest_of from trees (at + 1)) ≡ all_pushed
members_more model from trees place at tree old middle new all_pushed within is pushed second so_far =
    let e = placed from (expression tree) in
    let code = compiled model (length old) e in
    let member = op_at place (i.Member 0) in
    let rest = rest_of from trees (at + 1) in
    let both : new ≡ old ++ (code ++ member ∷ []) = grown old code (member ∷ []) middle new pushed second in
    let long : length new ≡ behind (length old) e + 1 =
    ap length both ∙ length-append old (code ++ member ∷ []) ∙ joined_length code (member ∷ []) (length old) (behind (length old) e) (behind (length old) e + 1) (ends_at model (length old) e) refl in
    ap (λ (l : List Op). l ++ members model place 0 (length new) rest) both ∙ append_assoc old (code ++ member ∷ []) (members model place 0 (length new) rest)
    ∙ ap (λ (l : List Op). old ++ l) (append_assoc code (member ∷ []) (members model place 0 (length new) rest))
    ∙ ap (λ (n : ℕ). old ++ (code ++ member ∷ members model place 0 n rest)) long
    ∙ ap (λ (es : Expressions). old ++ members model place 0 (length old) es) (sym (rest_more from trees at tree within is)) ∙ so_far
