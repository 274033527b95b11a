-- JSON values beside the values that were made of them.
use Rattle.std.proofs.Common.{◌≡◌, ℕ, zero, suc, ◌<◌, List, [], ◌∷◌, ◌++◌, length, get_or, Option, Some, None, option_map, option_and_then, string_bytes, string_cmp, refl, sym, ap, ◌∙◌, arith}
use Rattle.std.specs.List.Sorted.{IsStrictlySortedBy}
use Rattle.std.specs.Map.{keys_of}
use Rattle.serde_json.specs.View.{view, items_view, members_view}
use Rattle.serde_json.specs.declared.value.Value as json_value
use Rattle.serde_json.proofs.Views.{Entry}
use Rattle.perm_value.specs.Datum.{item, member}
use Rattle.perm_value.specs.Json.{datum_of, items_of_json, members_of_json}
use Rattle.perm_value.specs.Seen.{datum, items, members}
use Rattle.perm_value.specs.declared.value.Value.{Value}
use Rattle.perm_value.proofs.MadeLemmas.{Made, MembersMade, names_rise}
use Rattle.perm_value.proofs.MemberLemmas.{Named, listed, members_listed}

-- the value is that of the JSON value
abbrev pub IsOfJson : json_value.Value → Value → Type 0
IsOfJson j v = datum_of (view j) ≡ Some (datum v)

none_behind : {A B C : Type 0} (f : A → B → C) (o : Option A) → option_and_then (λ a. option_map (f a) None) o ≡ None
none_behind f None = refl
none_behind f (Some a) = refl

pub made_items : (js : List json_value.Value) (vs : List Value) → Made IsOfJson js vs → items_of_json (items_view js) ≡ Some (items vs)
made_items [] [] made = refl
made_items [] (v ∷ vs) made = absurd made
made_items (j ∷ js) [] made = absurd made
made_items (j ∷ js) (v ∷ vs) made = rw (made.0, made_items js vs made.1) refl

-- one value that has no datum, wherever it stands
pub one_item_not_whole : (js : List json_value.Value) (i : ℕ) (j : json_value.Value) → i < length js → datum_of (view (get_or js i j)) ≡ None → items_of_json (items_view js) ≡ None
one_item_not_whole [] i j within is = absurd (omega arith)
one_item_not_whole (k ∷ js) zero j within is = rw is refl
one_item_not_whole (k ∷ js) (suc i) j within is = rw (one_item_not_whole js i j (omega arith) is) (none_behind item (datum_of (view k)))

made_listed : (es : List Entry) (cs : List Named) → MembersMade IsOfJson es cs → members_of_json (members_view es) ≡ Some (listed cs)
made_listed [] [] made = refl
made_listed [] (c ∷ cs) made = absurd made
made_listed (e ∷ es) [] made = absurd made
made_listed (e ∷ es) (c ∷ cs) made = rw (made.0, made.1, made_listed es cs made.2) refl

pub made_members : (es : List Entry) (cs : List Named) → MembersMade IsOfJson es cs → IsStrictlySortedBy string_cmp (keys_of es) → members_of_json (members_view es) ≡ Some (members cs)
made_members es cs made sorted = made_listed es cs made ∙ ap Some (sym (members_listed cs (names_rise IsOfJson es cs made sorted)))

-- one member that has no datum, wherever it stands
pub one_member_not_whole : (done : List Entry) (e : Entry) (more : List Entry) → datum_of (view e.1) ≡ None → members_of_json (members_view (done ++ e ∷ more)) ≡ None
one_member_not_whole [] e more is = rw is refl
one_member_not_whole (first ∷ done) e more is = rw (one_member_not_whole done e more is) (none_behind (member (string_bytes first.0)) (datum_of (view first.1)))
