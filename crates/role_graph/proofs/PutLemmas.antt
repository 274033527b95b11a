-- Roles that a user is given in a map.
use Rattle.std.proofs.Common.{◌≡◌, ◌⊎◌, inl, inr, ◌<◌, ◌≤◌, ◌+◌, ◌-◌, ℕ, zero, suc, Bool, true, false, cond, List, [], ◌∷◌, ◌++◌, Option, None, Some, Result, Ok, Err, length, map, set, get_or, refl, sym, ap, subst, ◌∙◌, arith}
use Rattle.std.specs.Prelude.{◌==◌, All, OnOk, position}
use Rattle.std.specs.List.{AllByRecursion, IsDistinct, count_by, position_from, swap_remove}
use Rattle.std.proofs.lemmas.Iterator.Adapters.{position_from-zero}
use Rattle.std.proofs.lemmas.List.Quantifiers.{position-Some}
use Rattle.std.proofs.lemmas.List.Sums.{sum_by-cons, sum_by-swap_remove}
use Rattle.std.specs.Map.{AreApart as TestsApart, IsKeyTest, KeepsOthers, keys_of, lookup}
use Rattle.std.specs.Option.{option_map_or}
use Rattle.std.specs.Str.{bytes_eq}
use Rattle.std.proofs.lemmas.Bool.{cases_Bool, eqb-true, false≢true}
use Rattle.std.proofs.lemmas.List.Elements.{All-cons, All-get_or, All-head, All-map, All-nil, All-set, All-tail, All-take}
use Rattle.std.proofs.lemmas.Slice.Eq.{bytes_eq-Decides}
use Rattle.indexmap.specs.IndexMap.{insert_entry, swap_remove_entry}
use Rattle.role_graph.specs.Groups.{Group}
use Rattle.role_graph.specs.Helps.Edits.{overlay}
use Rattle.role_graph.specs.Helps.Kept.{AreApart, AreKept, group_of, roles_under, users_of}
use Rattle.role_graph.specs.Helps.UserRoles.{Texts}
use Rattle.role_graph.proofs.Entries.{Entry}

pub same_text : (x y : List ℕ) → bytes_eq x y ≡ true → x ≡ y
same_text x y is = (bytes_eq-Decides x y).0 is

pub text_itself : (x : List ℕ) → bytes_eq x x ≡ true
text_itself x = (bytes_eq-Decides x x).1 refl

-- users of entries with different keys differ
apart_first : (user : List ℕ) (entries : List Entry) → AllByRecursion (λ (key : List ℕ). bytes_eq user key ≡ false) (keys_of entries) → AllByRecursion (λ (name : List ℕ). bytes_eq user name ≡ false) (users_of (map group_of entries))
apart_first user [] all = tt
apart_first user (entry ∷ entries) all = (all.0, apart_first user entries all.1)

pub apart_from : (entries : List Entry) → IsDistinct bytes_eq (keys_of entries) → AreApart (map group_of entries)
unfolding IsDistinct
apart_from [] apart = tt
apart_from (entry ∷ entries) apart = (apart_first entry.0 entries apart.0, apart_from entries apart.1)

-- what holds of the groups of entries
all_entries : (P : Group → Type 0) (entries : List Entry) → All P (map group_of entries) → All (λ (entry : Entry). P (group_of entry)) entries
all_entries P [] all = All-nil (λ (entry : Entry). P (group_of entry))
all_entries P (entry ∷ entries) all =
    All-cons (λ (e : Entry). P (group_of e)) entry entries (All-head P (group_of entry) (map group_of entries) all)
    (all_entries P entries (All-tail P (group_of entry) (map group_of entries) all))

all_swapped : {X : Type 0} (P : X → Type 0) (x : X) (xs : List X) (at : Option ℕ) → All P (x ∷ xs) → All P (option_map_or (λ i. swap_remove (x ∷ xs) i x) at (x ∷ xs))
all_swapped P x xs None all = all
all_swapped P x xs (Some at) all =
    All-take P (length (x ∷ xs) - 1) (set (x ∷ xs) at (get_or (x ∷ xs) (length (x ∷ xs) - 1) x))
    (All-set P (x ∷ xs) at (get_or (x ∷ xs) (length (x ∷ xs) - 1) x) (All-get_or P (x ∷ xs) (length (x ∷ xs) - 1) x (omega arith) all) all)

all_swap : {X : Type 0} (P : List ℕ × X → Type 0) (test : List ℕ → Bool) (entries : List (List ℕ × X)) → All P entries → All P (swap_remove_entry test entries)
all_swap P test [] all = all
all_swap P test (entry ∷ entries) all = all_swapped P entry entries (position test (keys_of (entry ∷ entries))) all

pub all_removed : (P : Group → Type 0) (test : List ℕ → Bool) (entries : List Entry) → All P (map group_of entries) → All P (map group_of (swap_remove_entry test entries))
all_removed P test entries all = All-map P group_of (swap_remove_entry test entries) (all_swap (λ (entry : Entry). P (group_of entry)) test entries (all_entries P entries all))

pub all_inserted : (P : Group → Type 0) (entries : List Entry) (user : List ℕ) (roles : Texts) → P (group_of (user, roles)) → All P (map group_of entries) → All P (map group_of (insert_entry bytes_eq entries user roles))
all_inserted P [] user roles here all = All-cons P (group_of (user, roles)) [] here all
all_inserted P (entry ∷ entries) user roles here all =
    by (bytes_eq user entry.0) refl (all_inserted P entries user roles here (All-tail P (group_of entry) (map group_of entries) all))
  where
    by : (test : Bool) → bytes_eq user entry.0 ≡ test → All P (map group_of (insert_entry bytes_eq entries user roles)) → All P (map group_of (cond test ((entry.0, roles) ∷ entries) (entry ∷ insert_entry bytes_eq entries user roles)))
    by true is rest =
        All-cons P (group_of (entry.0, roles)) (map group_of entries)
        (subst (λ (name : List ℕ). P (record { user = name; roles = roles.items })) (same_text user entry.0 is) here)
        (All-tail P (group_of entry) (map group_of entries) all)
    by false is rest = All-cons P (group_of entry) (map group_of (insert_entry bytes_eq entries user roles)) (All-head P (group_of entry) (map group_of entries) all) rest

-- the roles after a group is put in
pub overlay_inserted : (name : List ℕ) (base : List (List ℕ)) (entries : List Entry) (user : List ℕ) (roles : Texts) → overlay (map group_of (insert_entry bytes_eq entries user roles)) base name ≡ cond (bytes_eq name user) roles.items (overlay (map group_of entries) base name)
overlay_inserted name base [] user roles = refl
overlay_inserted name base (entry ∷ entries) user roles = by (bytes_eq user entry.0) refl (overlay_inserted name base entries user roles)
  where
    rest_of : List (List ℕ)
    rest_of = overlay (map group_of entries) base name

    covered : (test inner : Bool) → test ≡ inner → cond inner roles.items rest_of ≡ cond test roles.items (cond inner entry.1.items rest_of)
    covered true true same = refl
    covered false false same = refl
    covered true false same = absurd cc
    covered false true same = absurd cc

    passed : (test inner : Bool) (behind : List (List ℕ)) → (inner ≡ true → test ≡ false) → behind ≡ cond test roles.items rest_of → cond inner entry.1.items behind ≡ cond test roles.items (cond inner entry.1.items rest_of)
    passed true true behind apart is = absurd (false≢true (sym (apart refl)))
    passed false true behind apart is = refl
    passed true false behind apart is = is
    passed false false behind apart is = is

    by : (test : Bool) → bytes_eq user entry.0 ≡ test → overlay (map group_of (insert_entry bytes_eq entries user roles)) base name ≡ cond (bytes_eq name user) roles.items rest_of → overlay (map group_of (cond test ((entry.0, roles) ∷ entries) (entry ∷ insert_entry bytes_eq entries user roles))) base name ≡ cond (bytes_eq name user) roles.items (cond (bytes_eq name entry.0) entry.1.items rest_of)
    by true is rest = covered (bytes_eq name user) (bytes_eq name entry.0) (ap (bytes_eq name) (same_text user entry.0 is))
    by false is rest =
        passed (bytes_eq name user) (bytes_eq name entry.0) (overlay (map group_of (insert_entry bytes_eq entries user roles)) base name)
        (λ here. differs (same_text name entry.0 here) (cases_Bool (bytes_eq name user))) rest
      where
        differs : name ≡ entry.0 → (bytes_eq name user ≡ true) ⊎ (bytes_eq name user ≡ false) → bytes_eq name user ≡ false
        differs here (inr other) = other
        differs here (inl equal) = absurd (false≢true (sym is ∙ (bytes_eq-Decides user entry.0).1 (sym (same_text name user equal) ∙ here)))

pub overlay_none : (groups : List Group) (user : List ℕ) → overlay groups [] user ≡ roles_under user groups
overlay_none [] user = refl
overlay_none (group ∷ groups) user = ap (λ (rest : List (List ℕ)). cond (bytes_eq user group.user) group.roles rest) (overlay_none groups user)

pub roles_inserted : (name : List ℕ) (entries : List Entry) (user : List ℕ) (roles : Texts) → roles_under name (map group_of (insert_entry bytes_eq entries user roles)) ≡ cond (bytes_eq name user) roles.items (roles_under name (map group_of entries))
roles_inserted name entries user roles =
    sym (overlay_none (map group_of (insert_entry bytes_eq entries user roles)) name) ∙ overlay_inserted name [] entries user roles
    ∙ ap (λ (rest : List (List ℕ)). cond (bytes_eq name user) roles.items rest) (overlay_none (map group_of entries) name)

-- what a query finds, as an overlay
pub overlay_lookup : (user : List ℕ) (base : List (List ℕ)) (entries : List Entry) → overlay (map group_of entries) base user ≡ option_map_or (λ (roles : Texts). roles.items) (lookup (bytes_eq user) entries) base
overlay_lookup user base [] = refl
overlay_lookup user base (entry ∷ entries) = by (bytes_eq user entry.0) (overlay_lookup user base entries)
  where
    by : (test : Bool) → overlay (map group_of entries) base user ≡ option_map_or (λ (roles : Texts). roles.items) (lookup (bytes_eq user) entries) base → cond test entry.1.items (overlay (map group_of entries) base user) ≡ option_map_or (λ (roles : Texts). roles.items) (cond test (Some entry.1) (lookup (bytes_eq user) entries)) base
    by true rest = refl
    by false rest = rest

key_test : (name : List ℕ) → IsKeyTest bytes_eq (bytes_eq name)
key_test name x y here = ap (λ (text : List ℕ). bytes_eq text y) (same_text name x here)

tests_apart : (name user : List ℕ) → bytes_eq name user ≡ false → TestsApart (bytes_eq user) (bytes_eq name)
tests_apart name user differ key here = by (cases_Bool (bytes_eq name key))
  where
    by : (bytes_eq name key ≡ true) ⊎ (bytes_eq name key ≡ false) → bytes_eq name key ≡ false
    by (inr other) = other
    by (inl equal) = absurd (false≢true (sym differ ∙ (bytes_eq-Decides name user).1 (same_text name key equal ∙ sym (same_text user key here))))

-- the others after a group is taken out
pub others_kept : (name user : List ℕ) (base : List (List ℕ)) (old new : List Entry) → KeepsOthers bytes_eq (bytes_eq user) old new → bytes_eq name user ≡ false → overlay (map group_of new) base name ≡ overlay (map group_of old) base name
unfolding KeepsOthers
others_kept name user base old new keeps differ =
    overlay_lookup name base new ∙ ap (λ (o : Option Texts). option_map_or (λ (r : Texts). r.items) o base) (keeps (bytes_eq name) (key_test name) (tests_apart name user differ))
    ∙ sym (overlay_lookup name base old)

pub taken_out : (name : List ℕ) (base : List (List ℕ)) (new : List Entry) → lookup (bytes_eq name) new ≡ None → overlay (map group_of new) base name ≡ base
taken_out name base new none = overlay_lookup name base new ∙ ap (λ (o : Option Texts). option_map_or (λ (r : Texts). r.items) o base) none

-- a user that is given no roles
pub roles_removed : (name user : List ℕ) (roles : List (List ℕ)) (old new : List Entry) → KeepsOthers bytes_eq (bytes_eq user) old new → lookup (bytes_eq user) new ≡ None → roles ≡ [] → roles_under name (map group_of new) ≡ cond (bytes_eq name user) roles (roles_under name (map group_of old))
roles_removed name user roles old new keeps none empty = by (bytes_eq name user) refl
  where
    by : (test : Bool) → bytes_eq name user ≡ test → roles_under name (map group_of new) ≡ cond test roles (roles_under name (map group_of old))
    by true is =
        sym (overlay_none (map group_of new) name)
        ∙ taken_out name [] new (subst (λ (text : List ℕ). lookup (bytes_eq text) new ≡ None) (sym (same_text name user is)) none) ∙ sym empty
    by false is = sym (overlay_none (map group_of new) name) ∙ others_kept name user [] old new keeps is ∙ overlay_none (map group_of old) name

pub given : {A E : Type 0} (r : Result A E) (x : A) (P : Type 0) → r ≡ Ok x → OnOk r P → P
given (Ok y) x P is p = p
given (Err e) x P is p = absurd cc

-- a list of a length that is not 0 is not empty
pub some_length : (n : ℕ) (test : Bool) → test ≡ (n == 0) → test ≡ false → 0 < n
some_length zero test is differ = absurd (false≢true (sym differ ∙ is))
some_length (suc n) test is differ = omega arith

pub kept_inserted : (old new : List Entry) (user : List ℕ) (roles : Texts) → IsDistinct bytes_eq (keys_of new) → new ≡ insert_entry bytes_eq old user roles → 0 < length roles.items → AreKept (map group_of old) → AreKept (map group_of new)
kept_inserted old new user roles apart is some kept = record {
  once = apart_from new apart;
  some = subst (λ (entries : List Entry). All (λ (group : Group). 0 < length group.roles) (map group_of entries)) (sym is)
      (all_inserted (λ (group : Group). 0 < length group.roles) old user roles some kept.some);
}

pub users_removed : (P : Group → Type 0) (test : List ℕ → Bool) (old new : List Entry) (groups : List Group) → map group_of old ≡ groups → new ≡ swap_remove_entry test old → All P groups → All P (map group_of new)
users_removed P test old new groups same is all =
    subst (λ (entries : List Entry). All P (map group_of entries)) (sym is) (all_removed P test old (subst (All P) (sym same) all))

pub users_inserted : (P : Group → Type 0) (old new : List Entry) (user : List ℕ) (roles : Texts) (groups : List Group) → map group_of old ≡ groups → new ≡ insert_entry bytes_eq old user roles → P (group_of (user, roles)) → All P groups → All P (map group_of new)
users_inserted P old new user roles groups same is here all =
    subst (λ (entries : List Entry). All P (map group_of entries)) (sym is) (all_inserted P old user roles here (subst (All P) (sym same) all))

pub roles_given : (name : List ℕ) (old new : List Entry) (user : List ℕ) (roles : Texts) (groups : List Group) → map group_of old ≡ groups → new ≡ insert_entry bytes_eq old user roles → roles_under name (map group_of new) ≡ cond (bytes_eq name user) roles.items (roles_under name groups)
roles_given name old new user roles groups same is =
    ap (λ (entries : List Entry). roles_under name (map group_of entries)) is ∙ roles_inserted name old user roles
    ∙ ap (λ (gs : List Group). cond (bytes_eq name user) roles.items (roles_under name gs)) same

pub no_items : (n : ℕ) (roles : List (List ℕ)) (test : Bool) → n ≡ length roles → test ≡ (n == 0) → test ≡ true → roles ≡ []
no_items n [] test long is none = refl
no_items n (role ∷ roles) test long is none = absurd (let zero_length : n ≡ 0 = eqb-true n 0 (sym is ∙ none) in omega arith)

front_of : {X : Type 0} (P : X → Type 0) (xs ys : List X) → AllByRecursion P (xs ++ ys) → AllByRecursion P xs
front_of P [] ys all = tt
front_of P (x ∷ xs) ys all = (all.0, front_of P xs ys all.1)

distinct_front : {X : Type 0} (eq : X → X → Bool) (xs ys : List X) → IsDistinct eq (xs ++ ys) → IsDistinct eq xs
unfolding IsDistinct
distinct_front eq [] ys all = tt
distinct_front eq (x ∷ xs) ys all = (front_of (λ y. eq x y ≡ false) xs ys all.0, distinct_front eq xs ys all.1)

users_both : (ones others : List Group) → users_of (ones ++ others) ≡ users_of ones ++ users_of others
users_both [] others = refl
users_both (one ∷ ones) others = ap (λ (rest : List (List ℕ)). one.user ∷ rest) (users_both ones others)

groups_both : (ones others : List Entry) → map group_of (ones ++ others) ≡ map group_of ones ++ map group_of others
groups_both [] others = refl
groups_both (one ∷ ones) others = ap (λ (rest : List Group). group_of one ∷ rest) (groups_both ones others)

pub apart_front : (old new last : List Entry) → old ≡ new ++ last → AreApart (map group_of old) → AreApart (map group_of new)
apart_front old new last is apart =
    distinct_front bytes_eq (users_of (map group_of new)) (users_of (map group_of last))
    (subst (IsDistinct bytes_eq) (users_both (map group_of new) (map group_of last))
    (subst (λ (groups : List Group). AreApart groups) (ap (map group_of) is ∙ groups_both new last) apart))

pub overlay_given : (name : List ℕ) (base : List (List ℕ)) (old new : List Entry) (user : List ℕ) (roles : Texts) (groups : List Group) → map group_of old ≡ groups → new ≡ insert_entry bytes_eq old user roles → overlay (map group_of new) base name ≡ cond (bytes_eq name user) roles.items (overlay groups base name)
overlay_given name base old new user roles groups same is =
    ap (λ (entries : List Entry). overlay (map group_of entries) base name) is ∙ overlay_inserted name base old user roles
    ∙ ap (λ (gs : List Group). cond (bytes_eq name user) roles.items (overlay gs base name)) same

counted_none : (name : List ℕ) (texts : List (List ℕ)) (start : ℕ) → position_from (bytes_eq name) start texts ≡ None → count_by (bytes_eq name) texts ≡ 0
counted_none name [] start none = refl
counted_none name (text ∷ texts) start none =
    sum_by-cons (λ (t : List ℕ). cond (bytes_eq name t) 1 0) text texts ∙ by (bytes_eq name text) none (counted_none name texts (start + 1))
  where
    by : (test : Bool) → cond test (Some start) (position_from (bytes_eq name) (start + 1) texts) ≡ None → (position_from (bytes_eq name) (start + 1) texts ≡ None → count_by (bytes_eq name) texts ≡ 0) → cond test 1 0 + count_by (bytes_eq name) texts ≡ 0
    by true found more = absurd cc
    by false rest more = let e : count_by (bytes_eq name) texts ≡ 0 = more rest in omega arith

pub stands_somewhere : (name : List ℕ) (texts : List (List ℕ)) → 1 ≤ count_by (bytes_eq name) texts → position (bytes_eq name) texts ≡ None → ⊥
stands_somewhere name texts some none =
    let zero_times : count_by (bytes_eq name) texts ≡ 0 = counted_none name texts 0 (sym (position_from-zero (bytes_eq name) texts) ∙ none) in omega arith

pub one_fewer : (name other : List ℕ) (texts : List (List ℕ)) (at : ℕ) (d : List ℕ) → position (bytes_eq name) texts ≡ Some at → count_by (bytes_eq other) (swap_remove texts at d) + cond (bytes_eq other name) 1 0 ≡ count_by (bytes_eq other) texts
one_fewer name other texts at d found =
    let place = position-Some (bytes_eq name) texts at d found in
    let is : get_or texts at d ≡ name = sym (same_text name (get_or texts at d) place.1) in
    ap (λ (text : List ℕ). count_by (bytes_eq other) (swap_remove texts at d) + cond (bytes_eq other text) 1 0) (sym is)
    ∙ sum_by-swap_remove (λ (text : List ℕ). cond (bytes_eq other text) 1 0) texts at d place.0

pub overlay_found : (user : List ℕ) (base : List (List ℕ)) (entries : List Entry) (groups : List Group) (roles : Texts) → map group_of entries ≡ groups → Some roles ≡ lookup (bytes_eq user) entries → roles.items ≡ overlay groups base user
overlay_found user base entries groups roles same found =
    ap (λ (o : Option Texts). option_map_or (λ (r : Texts). r.items) o base) found ∙ sym (overlay_lookup user base entries) ∙ ap (λ (gs : List Group). overlay gs base user) same

pub overlay_nowhere : (user : List ℕ) (base : List (List ℕ)) (entries : List Entry) (groups : List Group) → map group_of entries ≡ groups → None ≡ lookup (bytes_eq user) entries → base ≡ overlay groups base user
overlay_nowhere user base entries groups same none =
    ap (λ (o : Option Texts). option_map_or (λ (r : Texts). r.items) o base) none ∙ sym (overlay_lookup user base entries) ∙ ap (λ (gs : List Group). overlay gs base user) same

pub if_any : {A E : Type 0} (r : Result A E) (P : Type 0) → P → OnOk r P
if_any (Ok x) P p = p
if_any (Err e) P p = tt

pub on_ok_then : {A E : Type 0} (r : Result A E) (P Q : Type 0) → (P → Q) → OnOk r P → OnOk r Q
on_ok_then (Ok x) P Q f p = f p
on_ok_then (Err e) P Q f p = tt

pub kept_removed : (test : List ℕ → Bool) (old new : List Entry) → IsDistinct bytes_eq (keys_of new) → new ≡ swap_remove_entry test old → AreKept (map group_of old) → AreKept (map group_of new)
kept_removed test old new apart is kept = record {
  once = apart_from new apart;
  some = subst (λ (entries : List Entry). All (λ (group : Group). 0 < length group.roles) (map group_of entries)) (sym is)
      (all_removed (λ (group : Group). 0 < length group.roles) test old kept.some);
}
