-- A row more in the groups of a graph: a role more in a group that is there, or a group that is new.
use Rattle.std.proofs.Common.{◌≡◌, ◌⊎◌, inl, inr, ◌<◌, ◌≤◌, ◌+◌, ℕ, Bool, true, false, ◌&&◌, cond, List, [], ◌∷◌, ◌++◌, Option, Some, length, map, refl, sym, ap, subst, ◌∙◌, arith, length-append}
use Rattle.std.specs.Prelude.{All, not}
use Rattle.std.specs.List.{IsDistinct, count_by}
use Rattle.std.specs.Map.{KeepsOthers, keys_of, lookup, set_value}
use Rattle.std.specs.Option.{option_map_or}
use Rattle.std.specs.Str.{bytes_eq}
use Rattle.std.proofs.lemmas.Bool.{cases_Bool, false≢true}
use Rattle.std.proofs.lemmas.List.Elements.{All-cons, All-head, All-tail, All-weaker}
use Rattle.std.proofs.lemmas.Option.{same_Some}
use Rattle.perm_base.specs.Patterns.{is_pattern}
use Rattle.perm_base.specs.declared.shapes.Fit.{Fit}
use Rattle.policy_table.specs.Tables.{Fields, same}
use Rattle.role_graph.specs.Groups.{Group, row, rows_of, times}
use Rattle.role_graph.specs.Helps.Edits.{standing}
use Rattle.role_graph.specs.Helps.Kept.{AreKept, AreLinks, Kept, Parts, group_of, linked_of, roles_in, roles_under}
use Rattle.role_graph.specs.Helps.UserRoles.{Texts}
use Rattle.role_graph.proofs.ChangeLemmas.{put_pattern, put_text}
use Rattle.role_graph.proofs.CountLemmas.{rows_both, some_rows, times_linked_all}
use Rattle.role_graph.proofs.EditLemmas.{count_more, no_other, once, this_role}
use Rattle.role_graph.proofs.Entries.{Entry, lookup_roles}
use Rattle.role_graph.proofs.PutLemmas.{apart_from, overlay_none, others_kept, same_text}

-- ---- one list of roles is written in its place

all_written : (P : Group → Type 0) (user : List ℕ) (roles : Texts) (entries : List Entry) → P (record { user = user; roles = roles.items }) → All P (map group_of entries) → All P (map group_of (set_value (bytes_eq user) entries roles))
all_written P user roles [] here all = all
all_written P user roles (entry ∷ entries) here all =
    by (bytes_eq user entry.0) refl (all_written P user roles entries here (All-tail P (group_of entry) (map group_of entries) all))
  where
    by : (test : Bool) → bytes_eq user entry.0 ≡ test → All P (map group_of (set_value (bytes_eq user) entries roles)) → All P (map group_of (cond test ((entry.0, roles) ∷ entries) (entry ∷ set_value (bytes_eq user) entries roles)))
    by true is rest =
        All-cons P (group_of (entry.0, roles)) (map group_of entries)
        (subst (λ (name : List ℕ). P (record { user = name; roles = roles.items })) (same_text user entry.0 is) here)
        (All-tail P (group_of entry) (map group_of entries) all)
    by false is rest = All-cons P (group_of entry) (map group_of (set_value (bytes_eq user) entries roles)) (All-head P (group_of entry) (map group_of entries) all) rest

-- a group that is found has some role
pub found_some : (user : List ℕ) (entries : List Entry) (roles : Texts) → All (λ (group : Group). 0 < length group.roles) (map group_of entries) → Some roles ≡ lookup (bytes_eq user) entries → 0 < length roles.items
found_some user [] roles all is = absurd cc
found_some user (entry ∷ entries) roles all is =
    by (bytes_eq user entry.0) is (found_some user entries roles (All-tail (λ (group : Group). 0 < length group.roles) (group_of entry) (map group_of entries) all))
  where
    by : (test : Bool) → Some roles ≡ cond test (Some entry.1) (lookup (bytes_eq user) entries) → (Some roles ≡ lookup (bytes_eq user) entries → 0 < length roles.items) → 0 < length roles.items
    by true here more =
        subst (λ (one : Texts). 0 < length one.items) (sym (same_Some roles entry.1 here)) (All-head (λ (group : Group). 0 < length group.roles) (group_of entry) (map group_of entries) all)
    by false rest more = more rest

pub kept_written : (user : List ℕ) (roles : Texts) (old new : List Entry) → new ≡ set_value (bytes_eq user) old roles → IsDistinct bytes_eq (keys_of new) → 0 < length roles.items → AreKept (map group_of old) → AreKept (map group_of new)
kept_written user roles old new is apart some kept = record {
  once = apart_from new apart;
  some = subst (λ (entries : List Entry). All (λ (group : Group). 0 < length group.roles) (map group_of entries)) (sym is)
      (all_written (λ (group : Group). 0 < length group.roles) user roles old some kept.some);
}

pub users_written : (P : Group → Type 0) (user : List ℕ) (roles : Texts) (old new : List Entry) (groups : List Group) → map group_of old ≡ groups → new ≡ set_value (bytes_eq user) old roles → P (record { user = user; roles = roles.items }) → All P groups → All P (map group_of new)
users_written P user roles old new groups same_groups is here all =
    subst (λ (entries : List Entry). All P (map group_of entries)) (sym is) (all_written P user roles old here (subst (All P) (sym same_groups) all))

-- a list that is longer has some role
pub pushed_some : (before after : List (List ℕ)) (role : List ℕ) → after ≡ before ++ role ∷ [] → 0 < length after
pushed_some before after role is = omega (arith, ap length is, length-append before (role ∷ []))

-- ---- the roles of each user afterwards

pub roles_more : (name user role : List ℕ) (old new : List Entry) (after : Texts) (groups : List Group) → map group_of old ≡ groups → KeepsOthers bytes_eq (bytes_eq user) old new → lookup (bytes_eq user) new ≡ Some after → after.items ≡ roles_under user groups ++ role ∷ []
    → roles_under name (map group_of new) ≡ cond (bytes_eq name user) (roles_under user groups ++ role ∷ []) (roles_under name groups)
roles_more name user role old new after groups same_groups keeps there is = by (bytes_eq name user) refl
  where
    by : (test : Bool) → bytes_eq name user ≡ test → roles_under name (map group_of new) ≡ cond test (roles_under user groups ++ role ∷ []) (roles_under name groups)
    by true equal =
        ap (λ (text : List ℕ). roles_under text (map group_of new)) (same_text name user equal) ∙ lookup_roles user new
        ∙ ap (λ (o : Option Texts). option_map_or (λ (roles : Texts). roles.items) o []) there ∙ is
    by false differ =
        sym (overlay_none (map group_of new) name) ∙ others_kept name user [] old new keeps differ ∙ overlay_none (map group_of old) name
        ∙ ap (roles_under name) same_groups

-- a user that is there gets a role behind its others
pub roles_pushed : (user role : List ℕ) (entries : List Entry) (before after : Texts) (groups : List Group) → map group_of entries ≡ groups → Some before ≡ lookup (bytes_eq user) entries → after.items ≡ before.items ++ role ∷ [] → after.items ≡ roles_under user groups ++ role ∷ []
roles_pushed user role entries before after groups same_groups found is =
    is
    ∙ ap (λ (roles : List (List ℕ)). roles ++ role ∷ [])
    (ap (λ (o : Option Texts). option_map_or (λ (roles : Texts). roles.items) o []) found ∙ sym (lookup_roles user entries) ∙ ap (roles_under user) same_groups)

-- one that is nowhere has this role alone
pub roles_first : (user role : List ℕ) (entries : List Entry) (after : List (List ℕ)) (groups : List Group) → map group_of entries ≡ groups → [] ≡ roles_under user (map group_of entries) → after ≡ role ∷ [] → after ≡ roles_under user groups ++ role ∷ []
roles_first user role entries after groups same_groups none is = is ∙ ap (λ (roles : List (List ℕ)). roles ++ role ∷ []) (none ∙ ap (roles_under user) same_groups)

-- a map has at most one entry more
pub one_more : (new old : ℕ) (there : Bool) → new ≡ old + cond there 0 1 → new ≤ old + 1
one_more new old true is = omega (arith, is)
one_more new old false is = omega (arith, is)

-- ---- rows

-- a role more of one user is a row more
added_row : (old new : Parts) (user role : List ℕ) → ((name : List ℕ) → roles_in new name ≡ cond (bytes_eq name user) (roles_in old user ++ role ∷ []) (roles_in old name)) → (one : Fields) → standing new [] one ≡ standing old [] one + once (same one (row user role))
added_row old new user role gives [] = omega arith
added_row old new user role gives (a ∷ []) = ap (λ (test : Bool). 0 + once test) (sym (short (bytes_eq a user)))
  where
    short : (test : Bool) → (test && false) ≡ false
    short true = refl
    short false = refl
added_row old new user role gives (a ∷ b ∷ []) = by (cases_Bool (bytes_eq a user))
  where
    by : (bytes_eq a user ≡ true) ⊎ (bytes_eq a user ≡ false) → standing new [] (a ∷ b ∷ []) ≡ standing old [] (a ∷ b ∷ []) + once (same (a ∷ b ∷ []) (row user role))
    by (inl equal) =
        ap (count_by (bytes_eq b)) (gives a ∙ ap (λ (test : Bool). cond test (roles_in old user ++ role ∷ []) (roles_in old a)) equal) ∙ count_more b role (roles_in old user)
        ∙ ap (λ (name : List ℕ). count_by (bytes_eq b) (roles_in old name) + once (bytes_eq b role)) (sym (same_text a user equal))
        ∙ ap (λ (n : ℕ). standing old [] (a ∷ b ∷ []) + n) (sym (this_role a b user role equal))
    by (inr differ) =
        let rest : standing new [] (a ∷ b ∷ []) ≡ standing old [] (a ∷ b ∷ []) = ap (count_by (bytes_eq b)) (gives a ∙ ap (λ (test : Bool). cond test (roles_in old user ++ role ∷ []) (roles_in old a)) differ) in
        let none : once (same (a ∷ b ∷ []) (row user role)) ≡ 0 = no_other a b user role differ in
        omega (arith, rest, none)
added_row old new user role gives (a ∷ b ∷ c ∷ more) = ap (λ (test : Bool). 0 + once test) (sym (long (bytes_eq a user) (bytes_eq b role)))
  where
    long : (test next : Bool) → (test && (next && false)) ≡ false
    long true true = refl
    long true false = refl
    long false next = refl

-- links before and behind a row more have as many rows but for that one
rows_added : (old new : Parts) (user role : List ℕ) → AreLinks old.names old.plain.groups old.patterned.groups → AreLinks new.names new.plain.groups new.patterned.groups → ((name : List ℕ) → roles_in new name ≡ cond (bytes_eq name user) (roles_in old user ++ role ∷ []) (roles_in old name))
    → (one : Fields) → times one (rows_of (linked_of new).groups) ≡ times one (rows_of (linked_of old).groups) + once (same one (row user role))
rows_added old new user role sound still gives one = omega (
  arith,
  added_row old new user role gives one,
  times_linked_all old sound.texts sound.patterns sound.kept_texts sound.kept_patterns one,
  times_linked_all new still.texts still.patterns still.kept_texts still.kept_patterns one,
)

-- there are no more groups than rows
groups_few : (plain patterned : List Group) → AreKept plain → AreKept patterned → length plain + length patterned ≤ length (rows_of (plain ++ patterned))
groups_few plain patterned kept kept_patterns =
    let texts : length plain ≤ length (rows_of plain) = some_rows plain kept.some in
    let patterns : length patterned ≤ length (rows_of patterned) = some_rows patterned kept_patterns.some in
    let both : length (rows_of (plain ++ patterned)) ≡ length (rows_of plain ++ rows_of patterned) = ap length (rows_both plain patterned) in
    omega (arith, texts, patterns, both, length-append (rows_of plain) (rows_of patterned))

forth : (names : Fit) (groups : List Group) → All (λ (group : Group). is_pattern names group.user ≡ false) groups → All (λ (group : Group). not (is_pattern names group.user) ≡ true) groups
forth names groups every = All-weaker (λ (group : Group). is_pattern names group.user ≡ false) (λ (group : Group). not (is_pattern names group.user) ≡ true) (λ group no_pattern. ap not no_pattern) groups every

back : (names : Fit) (groups : List Group) → All (λ (group : Group). not (is_pattern names group.user) ≡ true) groups → All (λ (group : Group). is_pattern names group.user ≡ false) groups
back names groups every =
    All-weaker (λ (group : Group). not (is_pattern names group.user) ≡ true) (λ (group : Group). is_pattern names group.user ≡ false) (λ group right. unflip (is_pattern names group.user) right) groups every
  where
    unflip : (test : Bool) → not test ≡ true → test ≡ false
    unflip true wrong = absurd (false≢true wrong)
    unflip false right = refl

-- ---- a row more whose user is no pattern

pub links_with_text : (names : Fit) (plain new patterned : List Group) (user : List ℕ) → is_pattern names user ≡ false → AreLinks names plain patterned → length (rows_of (plain ++ patterned)) < 200000
    → ((test : List ℕ → Bool) → test user ≡ true → All (λ (group : Group). test group.user ≡ true) plain → All (λ (group : Group). test group.user ≡ true) new) → AreKept new → length new ≤ length plain + 1 → AreLinks names new patterned
links_with_text names plain new patterned user is sound few users kept more = record {
  texts = back names new (users (λ (name : List ℕ). not (is_pattern names name)) (ap not is) (forth names plain sound.texts));
  patterns = sound.patterns;
  few = omega (arith, groups_few plain patterned sound.kept_texts sound.kept_patterns, few, more);
  kept_texts = kept;
  kept_patterns = sound.kept_patterns;
}

pub rows_with_text : (old : Parts) (new : Kept) (user role : List ℕ) → is_pattern old.names user ≡ false → AreLinks old.names old.plain.groups old.patterned.groups → AreLinks old.names new.groups old.patterned.groups
    → ((name : List ℕ) → roles_under name new.groups ≡ cond (bytes_eq name user) (roles_under user old.plain.groups ++ role ∷ []) (roles_under name old.plain.groups)) → (one : Fields)
    → times one (rows_of (new.groups ++ old.patterned.groups)) ≡ times one (rows_of (linked_of old).groups) + once (same one (row user role))
rows_with_text old new user role is sound still roles one =
    rows_added old (record { plain = new; patterned = old.patterned; names = old.names }) user role sound still
    (λ name. put_text old.names old.plain new old.patterned (record { user = user; roles = roles_under user old.plain.groups ++ role ∷ [] }) is roles name
    ∙ ap (λ (all : List (List ℕ)). cond (bytes_eq name user) (all ++ role ∷ []) (roles_in old name)) (sym (ap (λ (test : Bool). cond test (roles_under user old.patterned.groups) (roles_under user old.plain.groups)) is))) one

-- ---- and one whose user is a pattern

pub links_with_pattern : (names : Fit) (plain patterned new : List Group) (user : List ℕ) → is_pattern names user ≡ true → AreLinks names plain patterned → length (rows_of (plain ++ patterned)) < 200000
    → ((test : List ℕ → Bool) → test user ≡ true → All (λ (group : Group). test group.user ≡ true) patterned → All (λ (group : Group). test group.user ≡ true) new) → AreKept new → length new ≤ length patterned + 1 → AreLinks names plain new
links_with_pattern names plain patterned new user is sound few users kept more = record {
  texts = sound.texts;
  patterns = users (is_pattern names) is sound.patterns;
  few = omega (arith, groups_few plain patterned sound.kept_texts sound.kept_patterns, few, more);
  kept_texts = sound.kept_texts;
  kept_patterns = kept;
}

pub rows_with_pattern : (old : Parts) (new : Kept) (user role : List ℕ) → is_pattern old.names user ≡ true → AreLinks old.names old.plain.groups old.patterned.groups → AreLinks old.names old.plain.groups new.groups
    → ((name : List ℕ) → roles_under name new.groups ≡ cond (bytes_eq name user) (roles_under user old.patterned.groups ++ role ∷ []) (roles_under name old.patterned.groups)) → (one : Fields)
    → times one (rows_of (old.plain.groups ++ new.groups)) ≡ times one (rows_of (linked_of old).groups) + once (same one (row user role))
rows_with_pattern old new user role is sound still roles one =
    rows_added old (record { plain = old.plain; patterned = new; names = old.names }) user role sound still
    (λ name. put_pattern old.names old.plain old.patterned new (record { user = user; roles = roles_under user old.patterned.groups ++ role ∷ [] }) is roles name
    ∙ ap (λ (all : List (List ℕ)). cond (bytes_eq name user) (all ++ role ∷ []) (roles_in old name)) (sym (ap (λ (test : Bool). cond test (roles_under user old.patterned.groups) (roles_under user old.plain.groups)) is))) one
