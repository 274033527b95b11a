-- A graph that is made of rows which come one after the other.
use Rattle.std.proofs.Common.{◌≡◌, ◌<◌, ◌+◌, ◌^◌, ℕ, List, [], ◌∷◌, ◌++◌, length, map, sym, ap, ◌∙◌, arith, length-append}
use Rattle.std.specs.Str.{bytes_eq}
use Rattle.std.proofs.lemmas.List.{length-map}
use Rattle.std.proofs.lemmas.List.Sums.{count_by-le-length}
use Rattle.policy_table.specs.Tables.{Fields, same}
use Rattle.role_meaning.specs.Links.{role_of, user_of}
use Rattle.role_graph.specs.Built.{Built, IsCounted}
use Rattle.role_graph.specs.Groups.{row, rows_with, times}
use Rattle.role_graph.specs.Helps.Roles.{count_of}
use Rattle.role_graph.proofs.CountLemmas.{as_long, roles_alike, rows_with_both}
use Rattle.role_graph.proofs.EditLemmas.{count_more, once, times_more}

-- a row that is put in by its user and its role
pub pushed_pair : (rule : Fields) (user role : List ℕ) (old new : List Fields) → user_of rule ≡ user → role_of rule ≡ role → ((one : Fields) → times one new ≡ times one old + once (same one (row user role))) → (one : Fields) → times one new ≡ times one old + once (same one (row (user_of rule) (role_of rule)))
pushed_pair rule user role old new first second more one =
    more one ∙ ap (λ (pair : Fields). times one old + once (same one pair)) (sym (ap (λ (u : List ℕ). row u (role_of rule)) first ∙ ap (row user) second))

-- a row more stands as often as it is put in
pub pushed_long : (old new : List Fields) (pair : Fields) → ((one : Fields) → times one new ≡ times one old + once (same one pair)) → length new ≡ length old + 1
pushed_long old new pair more = as_long new (old ++ pair ∷ []) (λ one. more one ∙ sym (times_more one pair old)) ∙ length-append old (pair ∷ [])

pub pushed_roles : (old new : List Fields) (pair : Fields) → ((one : Fields) → times one new ≡ times one old + once (same one pair)) → (role : List ℕ) → rows_with role new ≡ rows_with role old + once (bytes_eq role (role_of pair))
pushed_roles old new pair more role =
    let alike : rows_with role new ≡ rows_with role (old ++ pair ∷ []) = roles_alike new (old ++ pair ∷ []) (λ one. more one ∙ sym (times_more one pair old)) role in
    let both : rows_with role (old ++ pair ∷ []) ≡ rows_with role old + rows_with role (pair ∷ []) = rows_with_both role old (pair ∷ []) in
    let last : rows_with role (pair ∷ []) ≡ 0 + once (bytes_eq role (role_of pair)) = count_more role (role_of pair) [] in
    omega (arith, alike, both, last)

-- and is counted
pub pushed_counted : (old new : Built) (pair : Fields) → IsCounted old → length old.rows < 200000 → ((one : Fields) → times one new.rows ≡ times one old.rows + once (same one pair)) → ((role : List ℕ) → count_of new.roles role ≡ count_of old.roles role + once (bytes_eq role (role_of pair))) → new.count ≡ old.count + 1 → IsCounted new
pushed_counted old new pair is few more counts number = record {
  counted = λ role. omega (arith, counts role, is.counted role, pushed_roles old.rows new.rows pair more role);
  number = omega (arith, number, is.number, pushed_long old.rows new.rows pair more);
  few = omega (arith, few, pushed_long old.rows new.rows pair more);
}

-- a role can be counted once more
pub can_count_more : (built : Built) (role : List ℕ) → IsCounted built → count_of built.roles role + 1 < 2 ^ 64
can_count_more built role is = omega (arith, is.counted role, count_by-le-length (bytes_eq role) (map role_of built.rows), length-map built.rows role_of, is.few)
