-- How deep a list or an object nests, beside a test of each of its values.
use Rattle.std.proofs.Common.{◌≡◌, ℕ, ◌<◌, ◌&&◌, max, Bool, true, false, nat_le, List, [], ◌∷◌, ◌++◌, length, get_or, refl, sym, ap, ◌∙◌, arith}
use Rattle.std.specs.List.{list_all}
use Rattle.std.proofs.lemmas.List.Folds.{list_all_at, list_all-append}
use Rattle.serde_json.specs.Data.{depth, items_depth, members_depth}
use Rattle.serde_json.specs.View.{view, items_view, members_view}
use Rattle.serde_json.specs.declared.value.Value.{Value}
use Rattle.serde_json.proofs.Views.{Entry}

-- the value nests at most so deep
abbrev pub no_deeper : ℕ → Value → Bool
no_deeper n j = nat_le (depth (view j)) n

-- the value of a member nests at most so deep
abbrev pub member_no_deeper : ℕ → Entry → Bool
member_no_deeper n e = nat_le (depth (view e.1)) n

max_le : (a b n : ℕ) → nat_le (max a b) n ≡ (nat_le a n && nat_le b n)
max_le a b n = grind (arith)

none_le : (n : ℕ) → nat_le 0 n ≡ true
none_le n = grind (arith)

pub items_within : (n : ℕ) (js : List Value) → nat_le (items_depth (items_view js)) n ≡ list_all (no_deeper n) js
items_within n [] = none_le n
items_within n (j ∷ js) = max_le _ _ n ∙ ap (λ rest. nat_le (depth (view j)) n && rest) (items_within n js)

pub members_within : (n : ℕ) (es : List Entry) → nat_le (members_depth (members_view es)) n ≡ list_all (member_no_deeper n) es
members_within n [] = none_le n
members_within n (e ∷ es) = max_le _ _ n ∙ ap (λ rest. nat_le (depth (view e.1)) n && rest) (members_within n es)

false_with : (b : Bool) → false ≡ (b && false)
false_with true = refl
false_with false = refl

-- one value that nests too deep, wherever it stands
pub one_item_too_deep : (n : ℕ) (js : List Value) (i : ℕ) (j : Value) → i < length js → no_deeper n (get_or js i j) ≡ false → nat_le (items_depth (items_view js)) n ≡ false
one_item_too_deep n js i j within deep = items_within n js ∙ list_all_at (no_deeper n) js i j within deep

one_among : (n : ℕ) (done : List Entry) (e : Entry) (more : List Entry) → member_no_deeper n e ≡ false → list_all (member_no_deeper n) (done ++ e ∷ more) ≡ false
one_among n [] e more deep = ap (λ b. b && list_all (member_no_deeper n) more) deep
one_among n (first ∷ done) e more deep = ap (λ b. member_no_deeper n first && b) (one_among n done e more deep) ∙ sym (false_with (member_no_deeper n first))

-- one member that nests too deep, wherever it stands
pub one_member_too_deep : (n : ℕ) (done : List Entry) (e : Entry) (more : List Entry) → member_no_deeper n e ≡ false → nat_le (members_depth (members_view (done ++ e ∷ more))) n ≡ false
one_member_too_deep n done e more deep = members_within n (done ++ e ∷ more) ∙ one_among n done e more deep

-- one member more that is no deeper
pub all_with_last : (n : ℕ) (done : List Entry) (e : Entry) → list_all (member_no_deeper n) done ≡ true → member_no_deeper n e ≡ true → list_all (member_no_deeper n) (done ++ e ∷ []) ≡ true
all_with_last n done e before fit = list_all-append (member_no_deeper n) done (e ∷ []) ∙ rw (before, fit) refl
