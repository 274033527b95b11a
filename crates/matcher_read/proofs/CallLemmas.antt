-- What names call.
use Rattle.std.proofs.Common.{◌≡◌, ℕ, ◌+◌, Bool, true, false, cond, List, [], ◌∷◌, length, codes, Option, Some, None, option_map, refl, ap, sym, ◌∙◌, arith, find, position, map}
use Rattle.std.proofs.lemmas.Slice.Eq.{bytes_eq-Decides}
use Rattle.std.specs.Str.{bytes_eq}
use Rattle.matcher_read.specs.Calls.{callee_of, function_of, functions, function_or, is_known, name_of, relation_at, relation_names}
use Rattle.std.proofs.lemmas.List.{length-map}
use Rattle.matcher_read.specs.Expression.{Expression, function, relation, unknown, expression, expressions_of, count}
use Rattle.matcher_read.specs.Helps.TokenLists.{pieces}
use Rattle.matcher_read.specs.declared.tree.Function.{Function}
use Rattle.matcher_read.specs.declared.tree.Function.TheVariants as f
use Rattle.matcher_read.specs.declared.tree.Tree.{Tree}
use Rattle.matcher_read.proofs.PieceLemmas.{pieces_cases, other_text}

-- no name of a function has a dot
plain_name : (called : Function) → pieces (name_of called) ≡ name_of called ∷ []
plain_name f.KeyMatch = refl
plain_name _ = refl

find_none : (test : Function → Bool) (fs : List Function) → ((x : Function) → test x ≡ false) → find test fs ≡ None
find_none test [] h = refl
find_none test (x ∷ fs) h = ap (λ (b : Bool). cond b (Some x) (find test fs)) (h x) ∙ find_none test fs h

-- a name with a dot is no function and no relation
no_function : (bs a b : List ℕ) (cs : List (List ℕ)) → pieces bs ≡ a ∷ b ∷ cs → function_of bs ≡ None
no_function bs a b cs e = find_none (λ (found : Function). bytes_eq bs (name_of found)) functions (λ found. other_text bs (name_of found) a b cs (plain_name found) e)

no_relation : (bs a b : List ℕ) (cs : List (List ℕ)) → pieces bs ≡ a ∷ b ∷ cs → position (bytes_eq bs) relation_names ≡ None
no_relation bs a b cs e =
    let not : (text : List ℕ) → pieces text ≡ text ∷ [] → bytes_eq bs text ≡ false = λ text one. other_text bs text a b cs one e in
    rw (not (codes "g") refl, not (codes "g2") refl, not (codes "g3") refl, not (codes "g4") refl, not (codes "g5") refl, not (codes "g6") refl, not (codes "g7") refl, not (codes "g8") refl) refl

-- what a name calls, by the function and the relation of its bytes
pub calls_function : (bs : List ℕ) (found : Function) → Some found ≡ function_of bs → callee_of (pieces bs) ≡ function found
calls_function bs found e =
    pieces_cases (λ ps. callee_of ps ≡ function found) bs (ap (function_or bs) (sym e)) (λ a b cs more. absurd (let none : Some found ≡ None = e ∙ no_function bs a b cs more in cc))

relation_is : (bs : List ℕ) (number : ℕ) (o : Option ℕ) → Some number ≡ option_map (λ (place : ℕ). place + 1) o → relation_at bs o ≡ relation number
relation_is bs number None e = absurd cc
relation_is bs number (Some place) e = ap relation (let same : number ≡ place + 1 = cc in sym same)

pub calls_relation : (bs : List ℕ) (number : ℕ) → None ≡ function_of bs → Some number ≡ option_map (λ (place : ℕ). place + 1) (position (bytes_eq bs) relation_names)
    → callee_of (pieces bs) ≡ relation number
calls_relation bs number none e =
    pieces_cases (λ ps. callee_of ps ≡ relation number) bs (ap (function_or bs) (sym none) ∙ relation_is bs number (position (bytes_eq bs) relation_names) e)
    (λ a b cs more. absurd (let no : Some number ≡ None = e ∙ ap (option_map (λ (place : ℕ). place + 1)) (no_relation bs a b cs more) in cc))

unknown_is : (bs : List ℕ) (o : Option ℕ) → None ≡ option_map (λ (place : ℕ). place + 1) o → bytes_eq bs (codes "eval") ≡ false → is_known (relation_at bs o) ≡ false
unknown_is bs None e other = other
unknown_is bs (Some place) e other = absurd cc

pub calls_nothing : (bs : List ℕ) → None ≡ function_of bs → None ≡ option_map (λ (place : ℕ). place + 1) (position (bytes_eq bs) relation_names) → bytes_eq bs (codes "eval") ≡ false → is_known (callee_of (pieces bs)) ≡ false
calls_nothing bs none e other =
    pieces_cases (λ ps. is_known (callee_of ps) ≡ false) bs (ap (λ (o : Option Function). is_known (function_or bs o)) (sym none) ∙ unknown_is bs (position (bytes_eq bs) relation_names) e other) (λ a b cs more. refl)

-- the name `eval`
pub calls_eval : (bs : List ℕ) → bytes_eq bs (codes "eval") ≡ true → callee_of (pieces bs) ≡ unknown (codes "eval" ∷ [])
calls_eval bs e = rw ((bytes_eq-Decides bs (codes "eval")).0 e) refl

-- as many as the list has, and as there are trees
pub count_is : (es : List Expression) → count (expressions_of es) ≡ length es
count_is [] = refl
count_is (e ∷ es) = omega (arith, count_is es)

pub count_trees : (trees : List Tree) → count (expressions_of (map expression trees)) ≡ length trees
count_trees trees = count_is (map expression trees) ∙ length-map trees expression
