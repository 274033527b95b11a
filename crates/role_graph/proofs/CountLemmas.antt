-- How often rows of groups stand.
use Rattle.std.proofs.Common.{◌≡◌, ◌⊎◌, inl, inr, ◌<◌, ◌≤◌, ◌+◌, ℕ, Bool, true, false, ◌&&◌, ◌||◌, cond, List, [], ◌∷◌, ◌++◌, None, length, map, take, drop, get_or, refl, sym, ap, subst, ◌∙◌, arith, append_assoc, length-append, take-append-drop}
use Rattle.std.specs.Prelude.{All, not, filter}
use Rattle.std.specs.List.{AllByRecursion, Contains, IsDistinct, count_by}
use Rattle.std.specs.Str.{bytes_eq}
use Rattle.std.proofs.lemmas.Bool.{cases_Bool, false≢true}
use Rattle.std.proofs.lemmas.List.{drop_more, length-map, map-append}
use Rattle.std.proofs.lemmas.List.Elements.{All-head, All-tail, Contains-append_right}
use Rattle.std.proofs.lemmas.List.Sums.{sum_by-append, sum_by-cons}
use Rattle.perm_base.specs.Patterns.{is_pattern}
use Rattle.policy_table.specs.Tables.{Fields, same}
use Rattle.policy_table.proofs.CallerLemmas.{same-Decides}
use Rattle.perm_base.specs.declared.shapes.Fit.{Fit}
use Rattle.role_meaning.specs.Links.{Reaches, role_of, user_of}
use Rattle.role_meaning.proofs.CallerLemmas.{reaches_among, stands_cases, stands_here, stands_nowhere}
use Rattle.role_graph.specs.Graph.{shape_of}
use Rattle.role_graph.specs.Groups.{Group, after, has_user, row, rows_of, rows_with, times}
use Rattle.role_graph.specs.Helps.Edits.{overlay, standing}
use Rattle.role_graph.specs.Helps.Kept.{AreApart, AreKept, AreLinks, Parts, linked_of, roles_in, roles_under, users_of}
use Rattle.role_graph.proofs.EditLemmas.{and_end, once}
use Rattle.role_graph.proofs.PutLemmas.{overlay_none, same_text}

pub times_both : (one : Fields) (rows others : List Fields) → times one (rows ++ others) ≡ times one rows + times one others
times_both one rows others = sum_by-append (λ (r : Fields). once (same one r)) rows others

pub times_first : (one first : Fields) (rows : List Fields) → times one (first ∷ rows) ≡ once (same one first) + times one rows
times_first one first rows = sum_by-cons (λ (r : Fields). once (same one r)) first rows

pub same_itself : (one : Fields) → same one one ≡ true
same_itself one = (same-Decides one one).1 refl

-- lists in which each row stands as often are as long
pub split_at : (one : Fields) (rows : List Fields) → 1 ≤ times one rows → (front : List Fields) × (back : List Fields) × (rows ≡ front ++ one ∷ back)
split_at one [] some = absurd (omega arith)
split_at one (first ∷ rows) some = by (cases_Bool (same one first)) (split_at one rows)
  where
    by : (same one first ≡ true) ⊎ (same one first ≡ false) → (1 ≤ times one rows → (front : List Fields) × (back : List Fields) × (rows ≡ front ++ one ∷ back)) → (front : List Fields) × (back : List Fields) × (first ∷ rows ≡ front ++ one ∷ back)
    by (inl equal) more = ([], rows, ap (λ (r : Fields). r ∷ rows) (sym ((same-Decides one first).0 equal)))
    by (inr differ) more =
        let rest = more (let e : times one (first ∷ rows) ≡ 0 + times one rows = times_first one first rows ∙ ap (λ (t : Bool). once t + times one rows) differ in omega (arith, e)) in
        (first ∷ rest.0, rest.1, ap (λ (l : List Fields). first ∷ l) rest.2)

-- a row of a list, and the others
pub record Parted (one : Fields) (rows others : List Fields) : Type 0 where
  pub left : List Fields
  pub alike : (z : Fields) → times z rows ≡ times z left
  pub front : List Fields
  pub back : List Fields
  pub parts : others ≡ front ++ one ∷ back
  pub is : left ≡ front ++ back

pub parted : (one : Fields) (rows others : List Fields) → ((z : Fields) → times z (one ∷ rows) ≡ times z others) → Parted one rows others
parted one rows others equal =
    by (split_at one others (let e : once (same one one) + times one rows ≡ times one others = sym (times_first one one rows) ∙ equal one in let here : once (same one one) ≡ 1 = ap once (same_itself one) in omega (arith, e, here)))
  where
    by : (front : List Fields) × (back : List Fields) × (others ≡ front ++ one ∷ back) → Parted one rows others
    by (front, back, parts) = record {
      left = front ++ back;
      alike = λ z.
          (let left : times z (one ∷ rows) ≡ once (same z one) + times z rows = times_first z one rows in
          let whole : times z others ≡ times z front + times z (one ∷ back) = ap (times z) parts ∙ times_both z front (one ∷ back) in
          let inner : times z (one ∷ back) ≡ once (same z one) + times z back = times_first z one back in
          let both : times z (front ++ back) ≡ times z front + times z back = times_both z front back in
          let e : times z (one ∷ rows) ≡ times z others = equal z in
          omega (arith, left, whole, inner, both, e));
      front = front;
      back = back;
      parts = parts;
      is = refl;
    }

pub as_long : (rows others : List Fields) → ((one : Fields) → times one rows ≡ times one others) → length rows ≡ length others
as_long [] [] equal = refl
as_long [] (other ∷ others) equal =
    absurd (let none : 0 ≡ once (same other other) + times other others = equal other ∙ times_first other other others in let here : once (same other other) ≡ 1 = ap once (same_itself other) in omega (arith, none, here))
as_long (one ∷ rows) others equal =
    let p = parted one rows others equal in
    let shorter : length rows ≡ length (p.front ++ p.back) = as_long rows p.left p.alike ∙ ap length p.is in
    let all : length others ≡ length (p.front ++ one ∷ p.back) = ap length p.parts in
    omega (arith, shorter, all, length-append p.front (one ∷ p.back), length-append p.front p.back)

-- and each role has as many rows in both
pub rows_with_both : (role : List ℕ) (rows others : List Fields) → rows_with role (rows ++ others) ≡ rows_with role rows + rows_with role others
rows_with_both role rows others = ap (count_by (bytes_eq role)) (map-append role_of rows others) ∙ sum_by-append (λ (r : List ℕ). once (bytes_eq role r)) (map role_of rows) (map role_of others)

rows_with_first : (role : List ℕ) (first : Fields) (rows : List Fields) → rows_with role (first ∷ rows) ≡ once (bytes_eq role (role_of first)) + rows_with role rows
rows_with_first role first rows = sum_by-cons (λ (r : List ℕ). once (bytes_eq role r)) (role_of first) (map role_of rows)

pub roles_alike : (rows others : List Fields) → ((one : Fields) → times one rows ≡ times one others) → (role : List ℕ) → rows_with role rows ≡ rows_with role others
roles_alike [] [] equal role = refl
roles_alike [] (other ∷ others) equal role =
    absurd (let none : 0 ≡ once (same other other) + times other others = equal other ∙ times_first other other others in let here : once (same other other) ≡ 1 = ap once (same_itself other) in omega (arith, none, here))
roles_alike (one ∷ rows) others equal role =
    let p = parted one rows others equal in
    let fewer : rows_with role rows ≡ rows_with role p.left = roles_alike rows p.left p.alike role in
    let left : rows_with role p.left ≡ rows_with role p.front + rows_with role p.back = ap (rows_with role) p.is ∙ rows_with_both role p.front p.back in
    let all : rows_with role others ≡ rows_with role p.front + rows_with role (one ∷ p.back) = ap (rows_with role) p.parts ∙ rows_with_both role p.front (one ∷ p.back) in
    omega (arith, fewer, left, all, rows_with_first role one rows, rows_with_first role one p.back)

-- a row that is still to be taken out stands
pub next_stands : (rows : List Fields) (at : ℕ) (one : Fields) (now start : Fields → ℕ) → at < length rows → one ≡ get_or rows at one → ((r : Fields) → now r + times r (take at rows) ≡ start r) → ((r : Fields) → times r rows ≤ start r) → 1 ≤ now one
next_stands rows at one now start within is left stand =
    let whole : times one rows ≡ times one (take at rows) + times one (drop at rows) = ap (times one) (sym (take-append-drop at rows)) ∙ times_both one (take at rows) (drop at rows) in
    let first : times one (drop at rows) ≡ once (same one one) + times one (drop (at + 1) rows) =
    ap (times one) (drop_more rows at one within ∙ ap (λ (r : Fields). r ∷ drop (at + 1) rows) (sym is)) ∙ times_first one one (drop (at + 1) rows) in
    let here : once (same one one) ≡ 1 = ap once (same_itself one) in
    let now_is : now one + times one (take at rows) ≡ start one = left one in
    let enough : times one rows ≤ start one = stand one in
    omega (arith, whole, first, here, now_is, enough)

-- ---- rows of groups

count_first : (role first : List ℕ) (roles : List (List ℕ)) → count_by (bytes_eq role) (first ∷ roles) ≡ once (bytes_eq role first) + count_by (bytes_eq role) roles
count_first role first roles = sum_by-cons (λ (r : List ℕ). once (bytes_eq role r)) first roles

own_rows : (user role name : List ℕ) (roles : List (List ℕ)) → bytes_eq user name ≡ true → times (user ∷ role ∷ []) (map (row name) roles) ≡ count_by (bytes_eq role) roles
own_rows user role name [] equal = refl
own_rows user role name (first ∷ roles) equal =
    let here : once (same (user ∷ role ∷ []) (row name first)) ≡ once (bytes_eq role first) =
    ap (λ (test : Bool). once (test && (bytes_eq role first && true))) equal ∙ ap once (and_end (bytes_eq role first)) in
    let rest : times (user ∷ role ∷ []) (map (row name) roles) ≡ count_by (bytes_eq role) roles = own_rows user role name roles equal in
    let left : times (user ∷ role ∷ []) (row name first ∷ map (row name) roles) ≡ once (same (user ∷ role ∷ []) (row name first)) + times (user ∷ role ∷ []) (map (row name) roles) = times_first (user ∷ role ∷ []) (row name first) (map (row name) roles) in
    let right : count_by (bytes_eq role) (first ∷ roles) ≡ once (bytes_eq role first) + count_by (bytes_eq role) roles = count_first role first roles in
    left ∙ ap (λ (n : ℕ). n + times (user ∷ role ∷ []) (map (row name) roles)) here ∙ ap (λ (n : ℕ). once (bytes_eq role first) + n) rest ∙ sym right

no_rows_of : (one : Fields) (name : List ℕ) (roles : List (List ℕ)) → ((role : List ℕ) → same one (row name role) ≡ false) → times one (map (row name) roles) ≡ 0
no_rows_of one name [] differ = refl
no_rows_of one name (first ∷ roles) differ =
    let left : times one (row name first ∷ map (row name) roles) ≡ once (same one (row name first)) + times one (map (row name) roles) = times_first one (row name first) (map (row name) roles) in
    let here : once (same one (row name first)) ≡ 0 = ap once (differ first) in
    let rest : times one (map (row name) roles) ≡ 0 = no_rows_of one name roles differ in
    omega (arith, left, here, rest)

pub odd_rows : (one : Fields) (groups : List Group) → ((user role : List ℕ) → same one (row user role) ≡ false) → times one (rows_of groups) ≡ 0
unfolding rows_of
odd_rows one [] differ = refl
odd_rows one (group ∷ groups) differ =
    let both : times one (map (row group.user) group.roles ++ rows_of groups) ≡ times one (map (row group.user) group.roles) + times one (rows_of groups) = times_both one (map (row group.user) group.roles) (rows_of groups) in
    let here : times one (map (row group.user) group.roles) ≡ 0 = no_rows_of one group.user group.roles (differ group.user) in
    let rest : times one (rows_of groups) ≡ 0 = odd_rows one groups differ in
    omega (arith, both, here, rest)

absent : (user name : List ℕ) (groups : List Group) → bytes_eq user name ≡ true → AllByRecursion (λ (other : List ℕ). bytes_eq name other ≡ false) (users_of groups) → roles_under user groups ≡ []
absent user name [] equal all = refl
absent user name (group ∷ groups) equal all =
    ap (λ (test : Bool). cond test group.roles (roles_under user groups)) (ap (λ (text : List ℕ). bytes_eq text group.user) (same_text user name equal) ∙ all.0) ∙ absent user name groups equal all.1

pub times_rows : (user role : List ℕ) (groups : List Group) → AreApart groups → times (user ∷ role ∷ []) (rows_of groups) ≡ count_by (bytes_eq role) (roles_under user groups)
unfolding rows_of IsDistinct
times_rows user role [] apart = refl
times_rows user role (group ∷ groups) apart = times_both (user ∷ role ∷ []) (map (row group.user) group.roles) (rows_of groups) ∙ by (bytes_eq user group.user) refl (times_rows user role groups apart.1)
  where
    by : (test : Bool) → bytes_eq user group.user ≡ test → times (user ∷ role ∷ []) (rows_of groups) ≡ count_by (bytes_eq role) (roles_under user groups) → times (user ∷ role ∷ []) (map (row group.user) group.roles) + times (user ∷ role ∷ []) (rows_of groups) ≡ count_by (bytes_eq role) (cond test group.roles (roles_under user groups))
    by true is rest =
        let here : times (user ∷ role ∷ []) (map (row group.user) group.roles) ≡ count_by (bytes_eq role) group.roles = own_rows user role group.user group.roles is in
        let none : times (user ∷ role ∷ []) (rows_of groups) ≡ 0 = rest ∙ ap (count_by (bytes_eq role)) (absent user group.user groups is apart.0) in
        omega (arith, here, none)
    by false is rest =
        let here : times (user ∷ role ∷ []) (map (row group.user) group.roles) ≡ 0 = no_rows_of (user ∷ role ∷ []) group.user group.roles (λ r. ap (λ (test : Bool). test && (bytes_eq role r && true)) is) in
        omega (arith, here, rest)

pub rows_both : (groups others : List Group) → rows_of (groups ++ others) ≡ rows_of groups ++ rows_of others
unfolding rows_of
rows_both [] others = refl
rows_both (group ∷ groups) others =
    ap (λ (rest : List Fields). map (row group.user) group.roles ++ rest) (rows_both groups others) ∙ sym (append_assoc (map (row group.user) group.roles) (rows_of groups) (rows_of others))

-- a user of another kind has no group
other_kind : (test : List ℕ → Bool) (user : List ℕ) (kind other : Bool) (groups : List Group) → test user ≡ other → (kind ≡ other → ⊥) → All (λ (group : Group). test group.user ≡ kind) groups → roles_under user groups ≡ []
other_kind test user kind other [] is differ all = refl
other_kind test user kind other (group ∷ groups) is differ all =
    ap (λ (t : Bool). cond t group.roles (roles_under user groups)) (by (cases_Bool (bytes_eq user group.user)))
    ∙ other_kind test user kind other groups is differ (All-tail (λ (g : Group). test g.user ≡ kind) group groups all)
  where
    by : (bytes_eq user group.user ≡ true) ⊎ (bytes_eq user group.user ≡ false) → bytes_eq user group.user ≡ false
    by (inr none) = none
    by (inl equal) = absurd (differ (sym (All-head (λ (g : Group). test g.user ≡ kind) group groups all) ∙ sym (ap test (same_text user group.user equal)) ∙ is))

pub times_linked : (parts : Parts) (user role : List ℕ) → All (λ (group : Group). is_pattern parts.names group.user ≡ false) parts.plain.groups → All (λ (group : Group). is_pattern parts.names group.user ≡ true) parts.patterned.groups → AreKept parts.plain.groups → AreKept parts.patterned.groups → times (user ∷ role ∷ []) (rows_of (linked_of parts).groups) ≡ count_by (bytes_eq role) (roles_in parts user)
times_linked parts user role all_texts all_patterns kept_texts kept_patterns =
    ap (times (user ∷ role ∷ [])) (rows_both parts.plain.groups parts.patterned.groups) ∙ times_both (user ∷ role ∷ []) (rows_of parts.plain.groups) (rows_of parts.patterned.groups)
    ∙ by (is_pattern parts.names user) refl
  where
    texts : times (user ∷ role ∷ []) (rows_of parts.plain.groups) ≡ count_by (bytes_eq role) (roles_under user parts.plain.groups)
    texts = times_rows user role parts.plain.groups kept_texts.once

    patterns : times (user ∷ role ∷ []) (rows_of parts.patterned.groups) ≡ count_by (bytes_eq role) (roles_under user parts.patterned.groups)
    patterns = times_rows user role parts.patterned.groups kept_patterns.once

    by : (test : Bool) → is_pattern parts.names user ≡ test → times (user ∷ role ∷ []) (rows_of parts.plain.groups) + times (user ∷ role ∷ []) (rows_of parts.patterned.groups) ≡ count_by (bytes_eq role) (cond test (roles_under user parts.patterned.groups) (roles_under user parts.plain.groups))
    by true is =
        let none : count_by (bytes_eq role) (roles_under user parts.plain.groups) ≡ 0 = ap (count_by (bytes_eq role)) (other_kind (is_pattern parts.names) user false true parts.plain.groups is false≢true all_texts) in
        omega (arith, texts, patterns, none)
    by false is =
        let none : count_by (bytes_eq role) (roles_under user parts.patterned.groups) ≡ 0 = ap (count_by (bytes_eq role)) (other_kind (is_pattern parts.names) user true false parts.patterned.groups is (λ e. false≢true (sym e)) all_patterns) in
        omega (arith, texts, patterns, none)

pub times_filter : (test : Fields → Bool) (one : Fields) (rows : List Fields) → times one (filter test rows) ≡ cond (test one) (times one rows) 0
times_filter test one [] = by (test one)
  where
    by : (t : Bool) → times one [] ≡ cond t (times one []) 0
    by true = refl
    by false = refl
times_filter test one (first ∷ rows) = by (test first) refl (test one) refl (times_filter test one rows)
  where
    apart : test first ≡ true → test one ≡ false → once (same one first) ≡ 0
    apart yes_first no_one = ap once (differs (cases_Bool (same one first)))
      where
        differs : (same one first ≡ true) ⊎ (same one first ≡ false) → same one first ≡ false
        differs (inr other) = other
        differs (inl equal) = absurd (false≢true (sym no_one ∙ ap test ((same-Decides one first).0 equal) ∙ yes_first))

    away : test first ≡ false → test one ≡ true → once (same one first) ≡ 0
    away no_first yes_one = ap once (differs (cases_Bool (same one first)))
      where
        differs : (same one first ≡ true) ⊎ (same one first ≡ false) → same one first ≡ false
        differs (inr other) = other
        differs (inl equal) = absurd (false≢true (sym no_first ∙ sym (ap test ((same-Decides one first).0 equal)) ∙ yes_one))

    by : (kept : Bool) → test first ≡ kept → (passes : Bool) → test one ≡ passes → times one (filter test rows) ≡ cond (test one) (times one rows) 0 → times one (cond kept (first ∷ filter test rows) (filter test rows)) ≡ cond passes (times one (first ∷ rows)) 0
    by true is true passes rest =
        let left : times one (first ∷ filter test rows) ≡ once (same one first) + times one (filter test rows) = times_first one first (filter test rows) in
        let right : times one (first ∷ rows) ≡ once (same one first) + times one rows = times_first one first rows in
        let same_rest : times one (filter test rows) ≡ times one rows = rest ∙ ap (λ (t : Bool). cond t (times one rows) 0) passes in
        left ∙ ap (λ (n : ℕ). once (same one first) + n) same_rest ∙ sym right
    by true is false passes rest =
        let left : times one (first ∷ filter test rows) ≡ once (same one first) + times one (filter test rows) = times_first one first (filter test rows) in
        let same_rest : times one (filter test rows) ≡ 0 = rest ∙ ap (λ (t : Bool). cond t (times one rows) 0) passes in
        let here : once (same one first) ≡ 0 = apart is passes in
        omega (arith, left, same_rest, here)
    by false is true passes rest =
        let right : times one (first ∷ rows) ≡ once (same one first) + times one rows = times_first one first rows in
        let same_rest : times one (filter test rows) ≡ times one rows = rest ∙ ap (λ (t : Bool). cond t (times one rows) 0) passes in
        let here : once (same one first) ≡ 0 = away is passes in
        omega (arith, right, same_rest, here)
    by false is false passes rest = rest ∙ ap (λ (t : Bool). cond t (times one rows) 0) passes

overlay_has : (user : List ℕ) (base : List (List ℕ)) (groups : List Group) → has_user user groups ≡ true → overlay groups base user ≡ roles_under user groups
overlay_has user base [] none = absurd (false≢true none)
overlay_has user base (group ∷ groups) has = by (bytes_eq user group.user) has (overlay_has user base groups)
  where
    by : (test : Bool) → (test || has_user user groups) ≡ true → (has_user user groups ≡ true → overlay groups base user ≡ roles_under user groups) → cond test group.roles (overlay groups base user) ≡ cond test group.roles (roles_under user groups)
    by true here more = refl
    by false rest more = more rest

overlay_hasnt : (user : List ℕ) (base : List (List ℕ)) (groups : List Group) → has_user user groups ≡ false → overlay groups base user ≡ base
overlay_hasnt user base [] none = refl
overlay_hasnt user base (group ∷ groups) none = by (bytes_eq user group.user) none (overlay_hasnt user base groups)
  where
    by : (test : Bool) → (test || has_user user groups) ≡ false → (has_user user groups ≡ false → overlay groups base user ≡ base) → cond test group.roles (overlay groups base user) ≡ base
    by true here more = absurd (false≢true (sym here))
    by false rest more = more rest

odd_after : (one : Fields) (changed : List Group) (rows : List Fields) → times one rows ≡ 0 → times one (rows_of changed) ≡ 0 → times one (after changed rows) ≡ 0
odd_after one changed rows none no_changed =
    let both : times one (after changed rows) ≡ times one (filter (λ (r : Fields). not (has_user (user_of r) changed)) rows) + times one (rows_of changed) = times_both one (filter (λ (r : Fields). not (has_user (user_of r) changed)) rows) (rows_of changed) in
    let left : times one (filter (λ (r : Fields). not (has_user (user_of r) changed)) rows) ≡ 0 = times_filter (λ (r : Fields). not (has_user (user_of r) changed)) one rows ∙ by (not (has_user (user_of one) changed)) in
    omega (arith, both, left, no_changed)
  where
    by : (test : Bool) → cond test (times one rows) 0 ≡ 0
    by true = none
    by false = refl

pub times_after : (parts : Parts) (changed : List Group) → AreLinks parts.names parts.plain.groups parts.patterned.groups → AreApart changed → (one : Fields) → times one (after changed (rows_of (linked_of parts).groups)) ≡ standing parts changed one
times_after parts changed sound apart [] =
    odd_after [] changed (rows_of (linked_of parts).groups) (odd_rows [] (linked_of parts).groups (λ u r. refl)) (odd_rows [] changed (λ u r. refl))
times_after parts changed sound apart (a ∷ []) =
    odd_after (a ∷ []) changed (rows_of (linked_of parts).groups) (odd_rows (a ∷ []) (linked_of parts).groups (λ u r. short (bytes_eq a u))) (odd_rows (a ∷ []) changed (λ u r. short (bytes_eq a u)))
  where
    short : (test : Bool) → (test && false) ≡ false
    short true = refl
    short false = refl
times_after parts changed sound apart (a ∷ b ∷ []) =
    times_both (a ∷ b ∷ []) (filter (λ (r : Fields). not (has_user (user_of r) changed)) (rows_of (linked_of parts).groups)) (rows_of changed) ∙ by (has_user a changed) refl
  where
    left : times (a ∷ b ∷ []) (filter (λ (r : Fields). not (has_user (user_of r) changed)) (rows_of (linked_of parts).groups)) ≡ cond (not (has_user a changed)) (times (a ∷ b ∷ []) (rows_of (linked_of parts).groups)) 0
    left = times_filter (λ (r : Fields). not (has_user (user_of r) changed)) (a ∷ b ∷ []) (rows_of (linked_of parts).groups)

    right : times (a ∷ b ∷ []) (rows_of changed) ≡ count_by (bytes_eq b) (roles_under a changed)
    right = times_rows a b changed apart

    by : (has : Bool) → has_user a changed ≡ has → times (a ∷ b ∷ []) (filter (λ (r : Fields). not (has_user (user_of r) changed)) (rows_of (linked_of parts).groups)) + times (a ∷ b ∷ []) (rows_of changed) ≡ count_by (bytes_eq b) (overlay changed (roles_in parts a) a)
    by true is =
        let none : times (a ∷ b ∷ []) (filter (λ (r : Fields). not (has_user (user_of r) changed)) (rows_of (linked_of parts).groups)) ≡ 0 = left ∙ ap (λ (t : Bool). cond (not t) (times (a ∷ b ∷ []) (rows_of (linked_of parts).groups)) 0) is in
        let whole : count_by (bytes_eq b) (overlay changed (roles_in parts a) a) ≡ count_by (bytes_eq b) (roles_under a changed) = ap (count_by (bytes_eq b)) (overlay_has a (roles_in parts a) changed is) in
        omega (arith, none, whole, right)
    by false is =
        let stays : times (a ∷ b ∷ []) (filter (λ (r : Fields). not (has_user (user_of r) changed)) (rows_of (linked_of parts).groups)) ≡ times (a ∷ b ∷ []) (rows_of (linked_of parts).groups) = left ∙ ap (λ (t : Bool). cond (not t) (times (a ∷ b ∷ []) (rows_of (linked_of parts).groups)) 0) is in
        let before : times (a ∷ b ∷ []) (rows_of (linked_of parts).groups) ≡ count_by (bytes_eq b) (roles_in parts a) = times_linked parts a b sound.texts sound.patterns sound.kept_texts sound.kept_patterns in
        let whole : count_by (bytes_eq b) (overlay changed (roles_in parts a) a) ≡ count_by (bytes_eq b) (roles_in parts a) = ap (count_by (bytes_eq b)) (overlay_hasnt a (roles_in parts a) changed is) in
        let none : count_by (bytes_eq b) (roles_under a changed) ≡ 0 = ap (count_by (bytes_eq b)) (sym (overlay_none changed a) ∙ overlay_hasnt a [] changed is) in
        omega (arith, stays, before, whole, none, right)
times_after parts changed sound apart (a ∷ b ∷ c ∷ more) =
    odd_after (a ∷ b ∷ c ∷ more) changed (rows_of (linked_of parts).groups) (odd_rows (a ∷ b ∷ c ∷ more) (linked_of parts).groups (λ u r. long (bytes_eq a u) (bytes_eq b r))) (odd_rows (a ∷ b ∷ c ∷ more) changed (λ u r. long (bytes_eq a u) (bytes_eq b r)))
  where
    long : (test next : Bool) → (test && (next && false)) ≡ false
    long true true = refl
    long true false = refl
    long false next = refl

pub times_linked_all : (parts : Parts) → All (λ (group : Group). is_pattern parts.names group.user ≡ false) parts.plain.groups → All (λ (group : Group). is_pattern parts.names group.user ≡ true) parts.patterned.groups → AreKept parts.plain.groups → AreKept parts.patterned.groups → (one : Fields) → times one (rows_of (linked_of parts).groups) ≡ standing parts [] one
times_linked_all parts texts patterns kept_texts kept_patterns [] = odd_rows [] (linked_of parts).groups (λ u r. refl)
times_linked_all parts texts patterns kept_texts kept_patterns (a ∷ []) = odd_rows (a ∷ []) (linked_of parts).groups (λ u r. short (bytes_eq a u))
  where
    short : (test : Bool) → (test && false) ≡ false
    short true = refl
    short false = refl
times_linked_all parts texts patterns kept_texts kept_patterns (a ∷ b ∷ []) = times_linked parts a b texts patterns kept_texts kept_patterns
times_linked_all parts texts patterns kept_texts kept_patterns (a ∷ b ∷ c ∷ more) = odd_rows (a ∷ b ∷ c ∷ more) (linked_of parts).groups (λ u r. long (bytes_eq a u) (bytes_eq b r))
  where
    long : (test next : Bool) → (test && (next && false)) ≡ false
    long true true = refl
    long true false = refl
    long false next = refl

pub times_now : (parts : Parts) → AreLinks parts.names parts.plain.groups parts.patterned.groups → (one : Fields) → times one (rows_of (linked_of parts).groups) ≡ standing parts [] one
times_now parts sound one = times_linked_all parts sound.texts sound.patterns sound.kept_texts sound.kept_patterns one

-- each group has a row
pub some_rows : (groups : List Group) → All (λ (group : Group). 0 < length group.roles) groups → length groups ≤ length (rows_of groups)
unfolding rows_of
some_rows [] all = omega arith
some_rows (group ∷ groups) all =
    let rest : length groups ≤ length (rows_of groups) = some_rows groups (All-tail (λ (g : Group). 0 < length g.roles) group groups all) in
    let here : 0 < length group.roles = All-head (λ (g : Group). 0 < length g.roles) group groups all in
    omega (arith, rest, here, length-append (map (row group.user) group.roles) (rows_of groups), length-map group.roles (row group.user))

pub stands_from_times : (one : Fields) (rows : List Fields) → 1 ≤ times one rows → Contains rows one
stands_from_times one rows some =
    let parts = split_at one rows some in
    subst (λ (all : List Fields). Contains all one) (sym parts.2) (Contains-append_right parts.0 (one ∷ parts.1) one (stands_here one parts.1))

pub times_from_stands : (one : Fields) (rows : List Fields) → Contains rows one → 1 ≤ times one rows
times_from_stands one [] none = absurd (stands_nowhere one none)
times_from_stands one (first ∷ rows) stands = by (stands_cases first rows one stands) (times_from_stands one rows)
  where
    whole : times one (first ∷ rows) ≡ once (same one first) + times one rows
    whole = times_first one first rows

    by : (first ≡ one) ⊎ Contains rows one → (Contains rows one → 1 ≤ times one rows) → 1 ≤ times one (first ∷ rows)
    by (inl e) more = let here : once (same one first) ≡ 1 = ap (λ (r : Fields). once (same one r)) e ∙ ap once (same_itself one) in omega (arith, whole, here)
    by (inr behind) more = let rest : 1 ≤ times one rows = more behind in omega (arith, whole, rest)

pub reaches_as_often : (names : Fit) (rows others : List Fields) (links : ℕ) (x y : List ℕ) → ((one : Fields) → times one rows ≡ times one others) → Reaches (shape_of names) rows None links x y → Reaches (shape_of names) others None links x y
reaches_as_often names rows others links x y equal =
    reaches_among (shape_of names) rows others None links x y (λ one stands. stands_from_times one others (subst (λ (n : ℕ). 1 ≤ n) (equal one) (times_from_stands one rows stands)))
