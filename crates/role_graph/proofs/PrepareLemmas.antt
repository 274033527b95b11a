-- What a graph's edit comes to when it is prepared.
use Rattle.std.proofs.Common.{◌≡◌, false, ◌≤◌, ◌<◌, ◌+◌, ◌^◌, ℕ, List, [], ◌++◌, length, map, sym, ap, subst, ◌∙◌, arith, length-append}
use Rattle.std.specs.List.{count_by, list_any}
use Rattle.std.specs.Str.{bytes_eq}
use Rattle.std.proofs.lemmas.List.{length-map}
use Rattle.std.proofs.lemmas.List.Sums.{count_by-le-length}
use Rattle.perm_base.specs.LineEnds.{has_line_end}
use Rattle.role_meaning.specs.Links.{role_of}
use Rattle.role_graph.specs.Graph.{Edit, Graph, IsPreparedFor}
use Rattle.role_graph.specs.Helps.Roles.{Counted, count_of}
use Rattle.policy_table.specs.Tables.{Fields}
use Rattle.role_graph.specs.Groups.{Group, after, rows_of, rows_with, times}
use Rattle.role_graph.specs.Helps.Edits.{standing}
use Rattle.role_graph.specs.Helps.Kept.{AreApart, AreLinks, Parts, linked_of}
use Rattle.role_graph.proofs.CountLemmas.{as_long, roles_alike, rows_with_both, times_after, times_both, times_now}

pub stands_now : (parts : Parts) (start : List Group) → AreLinks parts.names parts.plain.groups parts.patterned.groups → start ≡ [] → (one : Fields) → times one (rows_of (linked_of parts).groups) ≡ standing parts start one
stands_now parts start sound none one = times_now parts sound one ∙ ap (λ (groups : List Group). standing parts groups one) (sym none)

pub prepared_times : (parts : Parts) (start between end : List Group) (insert remove : List Fields) → AreLinks parts.names parts.plain.groups parts.patterned.groups → start ≡ [] → AreApart end → ((one : Fields) → standing parts between one + times one remove ≡ standing parts start one) → ((one : Fields) → standing parts end one ≡ standing parts between one + times one insert) → (one : Fields) → times one (after end (rows_of (linked_of parts).groups)) + times one remove ≡ times one (rows_of (linked_of parts).groups) + times one insert
prepared_times parts start between end insert remove sound none apart removed added one =
    let before : times one (rows_of (linked_of parts).groups) ≡ standing parts start one = stands_now parts start sound none one in
    let behind : times one (after end (rows_of (linked_of parts).groups)) ≡ standing parts end one = times_after parts end sound apart one in
    omega (arith, before, behind, removed one, added one)

pub prepared_few : (rows others insert remove : List Fields) → ((one : Fields) → times one others + times one remove ≡ times one rows + times one insert) → length rows + length insert ≤ 200000 + length remove → length others ≤ 200000
prepared_few rows others insert remove equal few =
    let long : length (others ++ remove) ≡ length (rows ++ insert) = as_long (others ++ remove) (rows ++ insert) (λ one. times_both one others remove ∙ equal one ∙ sym (times_both one rows insert)) in
    omega (arith, long, few, length-append others remove, length-append rows insert)

-- how many rows have each role afterwards
pub changed_roles : (rows others insert remove : List Fields) → ((one : Fields) → times one others + times one remove ≡ times one rows + times one insert) → (role : List ℕ) → rows_with role others + rows_with role remove ≡ rows_with role rows + rows_with role insert
changed_roles rows others insert remove equal role =
    omega (
      arith,
      roles_alike (others ++ remove) (rows ++ insert) (λ one. times_both one others remove ∙ equal one ∙ sym (times_both one rows insert)) role,
      rows_with_both role others remove,
      rows_with_both role rows insert,
    )

-- what an edit comes to, in a graph whose rows these are
pub prepared_for : (graph : Graph) (edit : Edit) (rows : List Fields) (changed : List Group) (added removed : List (List ℕ)) (insert remove : List Fields) → graph.rows ≡ rows → edit.changed ≡ changed → edit.added ≡ added → edit.removed ≡ removed → list_any has_line_end added ≡ false → added ≡ map role_of insert → removed ≡ map role_of remove → AreApart changed → length changed ≤ graph.spare → length added ≤ graph.spare_roles → ((one : Fields) → times one (after changed rows) + times one remove ≡ times one rows + times one insert) → length rows + length insert ≤ 200000 + length remove → IsPreparedFor graph edit
prepared_for graph edit rows changed added removed insert remove same changed_is added_is removed_is lines come go apart room room_of_roles equal few = record {
  once = subst AreApart (sym changed_is) apart;
  room = omega (arith, ap length changed_is, room);
  room_of_roles = omega (arith, ap length added_is, room_of_roles);
  few = omega (arith, ap length behind, prepared_few rows (after changed rows) insert remove equal few);
  long = omega (
    arith,
    ap length behind,
    ap length same,
    ap length (added_is ∙ come),
    ap length (removed_is ∙ go),
    length-map insert role_of,
    length-map remove role_of,
    as_long (after changed rows ++ remove) (rows ++ insert) alike,
    length-append (after changed rows) remove,
    length-append rows insert,
  );
  whole_lines = ap (list_any has_line_end) added_is ∙ lines;
  roles = λ role. omega (
    arith,
    ap (rows_with role) behind,
    ap (rows_with role) same,
    ap (count_by (bytes_eq role)) (added_is ∙ come),
    ap (count_by (bytes_eq role)) (removed_is ∙ go),
    changed_roles rows (after changed rows) insert remove equal role,
  );
}
  where
    behind : after edit.changed graph.rows ≡ after changed rows
    behind = ap (λ (groups : List Group). after groups graph.rows) changed_is ∙ ap (after changed) same

    alike : (one : Fields) → times one (after changed rows ++ remove) ≡ times one (rows ++ insert)
    alike one = times_both one (after changed rows) remove ∙ equal one ∙ sym (times_both one rows insert)

-- the roles of an edit that come can be counted, and those that go are
pub can_count : (graph : Graph) (edit : Edit) (roles : Counted) (added : List (List ℕ)) → IsPreparedFor graph edit → ((role : List ℕ) → count_of roles role ≡ rows_with role graph.rows) → length graph.rows ≤ 200000 → length added < 2 ^ 63 → (role : List ℕ) → count_of roles role + length added < 2 ^ 64
can_count graph edit roles added good counted few short role =
    let within : rows_with role graph.rows ≤ length (map role_of graph.rows) = count_by-le-length (bytes_eq role) (map role_of graph.rows) in
    omega (arith, within, length-map graph.rows role_of, counted role, few, short)

pub are_counted : (graph : Graph) (edit : Edit) (old : Counted) (added removed : List (List ℕ)) → IsPreparedFor graph edit → added ≡ edit.added → removed ≡ edit.removed → ((role : List ℕ) → count_of old role ≡ rows_with role graph.rows) → (role : List ℕ) → count_by (bytes_eq role) removed ≤ count_of old role + count_by (bytes_eq role) added
are_counted graph edit old added removed good come go counted role = omega (arith, good.roles role, counted role, ap (count_by (bytes_eq role)) come, ap (count_by (bytes_eq role)) go)

pub counted_after : (graph : Graph) (edit : Edit) (old new : Counted) (added removed : List (List ℕ)) (rows : List Fields) → IsPreparedFor graph edit → added ≡ edit.added → removed ≡ edit.removed → ((role : List ℕ) → count_of old role ≡ rows_with role graph.rows) → ((role : List ℕ) → count_of new role + count_by (bytes_eq role) removed ≡ count_of old role + count_by (bytes_eq role) added) → ((one : Fields) → times one rows ≡ times one (after edit.changed graph.rows)) → (role : List ℕ) → count_of new role ≡ rows_with role rows
counted_after graph edit old new added removed rows good come go counted change alike role =
    omega (arith, good.roles role, counted role, change role, ap (count_by (bytes_eq role)) come, ap (count_by (bytes_eq role)) go, roles_alike rows (after edit.changed graph.rows) alike role)

-- an edit stays prepared while the rows are the same and the room is not less
pub still_prepared : (old new : Graph) (edit : Edit) → new.rows ≡ old.rows → old.spare ≤ new.spare → old.spare_roles ≤ new.spare_roles → IsPreparedFor old edit → IsPreparedFor new edit
still_prepared old new edit same more more_roles good = record {
  once = good.once;
  room = omega (arith, good.room, more);
  room_of_roles = omega (arith, good.room_of_roles, more_roles);
  few = omega (arith, good.few, ap length (ap (after edit.changed) same));
  long = omega (arith, good.long, ap length same, ap length (ap (after edit.changed) same));
  whole_lines = good.whole_lines;
  roles = λ role. omega (arith, good.roles role, ap (rows_with role) same, ap (rows_with role) (ap (after edit.changed) same));
}
