-- Maps by texts that are copied entry by entry, and a graph of copied parts.
use Rattle.std.proofs.Common.{◌≡◌, ℕ, zero, suc, ◌+◌, ◌<◌, ◌≤◌, Bool, true, false, cond, List, [], ◌∷◌, ◌++◌, Some, None, length, map, take, drop, get_or, slice_get, refl, sym, ap, subst, ◌∙◌, arith}
use Rattle.std.specs.Prelude.{if◌then◌else◌}
use Rattle.std.specs.List.{IsDistinct}
use Rattle.std.specs.Map.{keys_of, lookup}
use Rattle.std.specs.Str.{bytes_eq}
use Rattle.std.proofs.lemmas.Cmp.{nat_list_eq_equiv}
use Rattle.std.proofs.lemmas.List.{drop_more, length-map, take-append-drop, take_all, take_more}
use Rattle.std.proofs.lemmas.Option.{get_or_from_slice_get}
use Rattle.indexmap.specs.IndexMap.{insert_entry}
use Rattle.indexmap.proofs.MapLemmas.{absent_before}
use Rattle.perm_base.specs.declared.shapes.Fit.{Fit}
use Rattle.role_graph.specs.Groups.{Group, rows_of}
use Rattle.role_graph.specs.Helps.Kept.{AreLinks, IsSound, Parts, group_of, linked_of, users_of}
use Rattle.role_graph.specs.Helps.Roles.{Counted}
use Rattle.role_graph.specs.Helps.Walks.{no_group}
use Rattle.role_graph.specs.Helps.UserRoles.{Texts}
use Rattle.role_graph.proofs.Entries.{Entry}

-- entries by the texts of their keys, each with what is copied of its value
abbrev pub seen : {K X Y : Type 0} → (K → List ℕ) → (X → Y) → List (K × X) → List (List ℕ × Y)
seen {K} {X} {Y} key value entries = map (λ (e : K × X). (key e.0, value e.1)) entries

-- entries whose keys are texts, of which nothing is copied
pub seen_self : {X : Type 0} (entries : List (List ℕ × X)) → seen (λ (k : List ℕ). k) (λ (x : X). x) entries ≡ entries
seen_self [] = refl
seen_self {X} (e ∷ entries) = ap (λ (l : List (List ℕ × X)). e ∷ l) (seen_self entries)

-- a text that is not among them goes last
insert_last : {K X Y : Type 0} (key : K → List ℕ) (value : X → Y) (entries : List (K × X)) (k : K) (x : X) → lookup (bytes_eq (key k)) (seen key value entries) ≡ None
    → seen key value (insert_entry (λ (a b : K). bytes_eq (key a) (key b)) entries k x) ≡ seen key value entries ++ (key k, value x) ∷ []
insert_last key value [] k x none = refl
insert_last {K} {X} {Y} key value (e ∷ entries) k x none = by (bytes_eq (key k) (key e.0)) none (insert_last key value entries k x)
  where
    by : (b : Bool) → cond b (Some (value e.1)) (lookup (bytes_eq (key k)) (seen key value entries)) ≡ None
        → (lookup (bytes_eq (key k)) (seen key value entries) ≡ None → seen key value (insert_entry (λ (a b : K). bytes_eq (key a) (key b)) entries k x) ≡ seen key value entries ++ (key k, value x) ∷ [])
        → seen key value (if b then (e.0, x) ∷ entries else e ∷ insert_entry (λ (a b : K). bytes_eq (key a) (key b)) entries k x) ≡ (key e.0, value e.1) ∷ (seen key value entries ++ (key k, value x) ∷ [])
    by true is rest = absurd cc
    by false is rest = ap (λ (l : List (List ℕ × Y)). (key e.0, value e.1) ∷ l) (rest is)

-- the next entry is put behind those before it
pub copied_next : {K X Y : Type 0} (key : K → List ℕ) (value : X → Y) (all : List (List ℕ × Y)) (old new : List (K × X)) (at : ℕ) (k : K) (x : X) (text : List ℕ) (y : Y) → IsDistinct bytes_eq (keys_of all) → at < length all
    → slice_get all at ≡ Some (text, y) → key k ≡ text → value x ≡ y → seen key value old ≡ take at all → new ≡ insert_entry (λ (a b : K). bytes_eq (key a) (key b)) old k x → seen key value new ≡ take (at + 1) all
copied_next {K} {X} {Y} key value all old new at k x text y distinct within here named same so_far inserted =
    ap (λ (l : List (K × X)). seen key value l) inserted
    ∙ insert_last key value old k x ((λ j. lookup (bytes_eq (named j)) (so_far j)) ∙ absent)
    ∙ (λ j. so_far j ++ (named j, same j) ∷ [])
    ∙ sym (take_more all at entry within ∙ ap (λ (e : List ℕ × Y). take at all ++ e ∷ []) there)
  where
    entry : List ℕ × Y
    entry = (text, y)

    there : get_or all at entry ≡ entry
    there = get_or_from_slice_get all at entry entry here

    parts : all ≡ take at all ++ entry ∷ drop (at + 1) all
    parts = sym (take-append-drop at all) ∙ ap (λ (l : List (List ℕ × Y)). take at all ++ l) (drop_more all at entry within ∙ ap (λ (e : List ℕ × Y). e ∷ drop (at + 1) all) there)

    absent : lookup (bytes_eq text) (take at all) ≡ None
    absent = absent_before nat_list_eq_equiv (take at all) (drop (at + 1) all) entry (subst (λ (l : List (List ℕ × Y)). IsDistinct bytes_eq (keys_of l)) parts distinct)

-- when all are, they are the same
pub copied_all : {Y : Type 0} (all new : List (List ℕ × Y)) (at : ℕ) → length all ≤ at → new ≡ take at all → new ≡ all
copied_all all new at few so_far = so_far ∙ take_all at all few

-- ---- groups

abbrev pub key_text : List ℕ → List ℕ
key_text key = key

abbrev pub roles_text : Texts → List (List ℕ)
roles_text roles = roles.items

-- groups as pairs
abbrev pub pairs_of : List Group → List (List ℕ × List (List ℕ))
pairs_of groups = map (λ (group : Group). (group.user, group.roles)) groups

abbrev pub group_by : List ℕ × List (List ℕ) → Group
group_by pair = record { user = pair.0; roles = pair.1 }

keys_pairs : (groups : List Group) → keys_of (pairs_of groups) ≡ users_of groups
keys_pairs [] = refl
keys_pairs (group ∷ groups) = ap (λ (l : List (List ℕ)). group.user ∷ l) (keys_pairs groups)

pair_there : (groups : List Group) (at : ℕ) → at < length groups → slice_get (pairs_of groups) at ≡ Some ((get_or groups at no_group).user, (get_or groups at no_group).roles)
pair_there [] at within = absurd (omega arith)
pair_there (group ∷ groups) zero within = refl
pair_there (group ∷ groups) (suc at) within = pair_there groups at (omega arith)

back_pairs : (groups : List Group) → map group_by (pairs_of groups) ≡ groups
back_pairs [] = refl
back_pairs (group ∷ groups) = ap (λ (l : List Group). group ∷ l) (back_pairs groups)

back_seen : (entries : List Entry) → map group_of entries ≡ map group_by (seen key_text roles_text entries)
back_seen [] = refl
back_seen (entry ∷ entries) = ap (λ (l : List Group). group_of entry ∷ l) (back_seen entries)

pub group_copied : (groups : List Group) (old new : List Entry) (at : ℕ) (user : List ℕ) (roles : Texts) → IsDistinct bytes_eq (users_of groups) → at < length groups → user ≡ (get_or groups at no_group).user
    → roles.items ≡ (get_or groups at no_group).roles → seen key_text roles_text old ≡ take at (pairs_of groups) → new ≡ insert_entry (λ (a b : List ℕ). bytes_eq a b) old user roles
    → seen key_text roles_text new ≡ take (at + 1) (pairs_of groups)
group_copied groups old new at user roles distinct within named same so_far inserted =
    copied_next key_text roles_text (pairs_of groups) old new at user roles (get_or groups at no_group).user (get_or groups at no_group).roles (subst (IsDistinct bytes_eq) (sym (keys_pairs groups)) distinct)
    (omega (arith, within, length-map {B = List ℕ × List (List ℕ)} groups (λ (group : Group). (group.user, group.roles)))) (pair_there groups at within) named same so_far inserted

pub groups_copied : (groups : List Group) (new : List Entry) (at : ℕ) → length groups ≤ at → seen key_text roles_text new ≡ take at (pairs_of groups) → map group_of new ≡ groups
groups_copied groups new at few so_far =
    back_seen new
    ∙ ap (map group_by) (copied_all (pairs_of groups) (seen key_text roles_text new) at (omega (arith, few, length-map {B = List ℕ × List (List ℕ)} groups (λ (group : Group). (group.user, group.roles)))) so_far)
    ∙ back_pairs groups

-- ---- links and graphs

pub links_copied : (names name : Fit) (plain patterned other others : List Group) → name ≡ names → other ≡ plain → others ≡ patterned → AreLinks names plain patterned → AreLinks name other others
links_copied names name plain patterned other others same one two are =
    subst (λ (n : Fit). AreLinks n other others) (sym same) (subst (λ (l : List Group). AreLinks names l others) (sym one) (subst (AreLinks names plain) (sym two) are))

abbrev parts_by : List Group → ℕ → List Group → ℕ → Fit → Parts
parts_by plain spare patterned room names = record { plain = record { groups = plain; spare = spare }; patterned = record { groups = patterned; spare = room }; names = names }

abbrev counts_by : List (List ℕ × ℕ) → ℕ → Counted
counts_by entries spare = record { entries = entries; spare = spare }

-- the room is not asked for
sound_room : (plain patterned : List Group) (a b c d : ℕ) (names : Fit) (limit : ℕ) (entries : List (List ℕ × ℕ)) (e f count : ℕ) (cells : List (List ℕ)) → IsSound (parts_by plain a patterned b names) limit (counts_by entries e) count cells
    → IsSound (parts_by plain c patterned d names) limit (counts_by entries f) count cells
sound_room plain patterned a b c d names limit entries e f count cells is = record {
  links = is.links;
  few = is.few;
  some = is.some;
  limited = is.limited;
  counted = is.counted;
  number = is.number;
  nodes = is.nodes;
  exact = is.exact;
}

pub sound_copied : (old new : Parts) (limit : ℕ) (roles more : Counted) (count : ℕ) (cells after : List (List ℕ)) → new.plain.groups ≡ old.plain.groups → new.patterned.groups ≡ old.patterned.groups → new.names ≡ old.names → more.entries ≡ roles.entries
    → after ≡ cells → IsSound old limit roles count cells → IsSound new limit more count after
sound_copied old new limit roles more count cells after plain patterned names entries same is =
    subst (λ (l : List Group). IsSound (parts_by l new.plain.spare new.patterned.groups new.patterned.spare new.names) limit more count after) (sym plain)
    (subst (λ (l : List Group). IsSound (parts_by old.plain.groups new.plain.spare l new.patterned.spare new.names) limit more count after) (sym patterned)
    (subst (λ (n : Fit). IsSound (parts_by old.plain.groups new.plain.spare old.patterned.groups new.patterned.spare n) limit more count after) (sym names)
    (subst (λ (l : List (List ℕ × ℕ)). IsSound (parts_by old.plain.groups new.plain.spare old.patterned.groups new.patterned.spare old.names) limit (counts_by l more.spare) count after) (sym entries)
    (subst (IsSound (parts_by old.plain.groups new.plain.spare old.patterned.groups new.patterned.spare old.names) limit (counts_by roles.entries more.spare) count) (sym same)
    (sound_room old.plain.groups old.patterned.groups old.plain.spare old.patterned.spare new.plain.spare new.patterned.spare old.names limit roles.entries roles.spare more.spare count cells is)))))

-- its rows
pub rows_copied : (old new : Parts) → new.plain.groups ≡ old.plain.groups → new.patterned.groups ≡ old.patterned.groups → rows_of (linked_of new).groups ≡ rows_of (linked_of old).groups
rows_copied old new plain patterned = λ j. rows_of (plain j ++ patterned j)
