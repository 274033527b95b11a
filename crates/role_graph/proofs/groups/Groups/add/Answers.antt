use Rattle.std.proofs.Common.{◌≡◌, ◌++◌, ◌∷◌, ◌∙◌, [], ℕ, List, true, cond, arith, length, map, ap, refl, subst, sym}
use Rattle.std.specs.Prelude.{IsSome, is_some}
use Rattle.std.specs.Str.{bytes_eq}
use Rattle.std.proofs.lemmas.List.{length-map}
use Rattle.role_graph.specs.Groups.{Group}
use Rattle.role_graph.specs.Helps.Kept.{AreKept, Kept, group_of, roles_under}
use Rattle.role_graph.specs.Helps.UserRoles.{Texts}
use Rattle.role_graph.proofs.Adding.{found_some, kept_written, one_more, pushed_some, roles_first, roles_more, roles_pushed, users_written}
use Rattle.role_graph.proofs.Entries.{roles_nowhere}
use Rattle.role_graph.proofs.PutLemmas.{kept_inserted, on_ok_then, users_inserted}
use Rattle.role_graph.proofs.groups.Groups.add.Goals as goal

-- the user is there
pub invariant_of-self : goal.invariant_of-self
invariant_of-self c =
    let after : Texts = c.push.new.self in
    let wrote = c.get_mut.follows.holds after in
    kept_written c.as_bytes.result.now after c.self.inside.entries.entries (c.get_mut.follows.lender after).entries wrote.0 wrote.4
    (omega (arith, found_some c.as_bytes.result.now c.self.inside.entries.entries c.in-Some.roles.now c.self.invariant.some c.in-Some.ensures.value, c.push.ensures.longer)) c.self.invariant

pub returns-in-Some-clause-roles : goal.returns-in-Some-clause-roles
returns-in-Some-clause-roles c =
    let after : Texts = c.push.new.self in
    let updates = (c.get_mut.follows.holds after).3 (subst IsSome c.in-Some.ensures.value refl) in
    let groups = ap (λ (k : Kept). k.groups) c.self.view_is in
    on_ok_then c.push.result _ _
    (λ pushed name.
    subst (λ (user : List ℕ). roles_under name (map group_of (c.get_mut.follows.lender after).entries) ≡ cond (bytes_eq name user) (roles_under user c.args.self.now.groups ++ c.args.role ∷ []) (roles_under name c.args.self.now.groups)) c.as_bytes.ensures.value
    (roles_more name c.as_bytes.result.now c.args.role c.self.inside.entries.entries (c.get_mut.follows.lender after).entries after c.args.self.now.groups groups updates.3 updates.1
    (roles_pushed c.as_bytes.result.now c.args.role c.self.inside.entries.entries c.in-Some.roles.now after c.args.self.now.groups groups c.in-Some.ensures.value pushed)))
    c.push.ensures.pushed

pub returns-in-Some-clause-kept : goal.returns-in-Some-clause-kept
returns-in-Some-clause-kept c =
    let after : Texts = c.push.new.self in
    let wrote = c.get_mut.follows.holds after in
    kept_written c.as_bytes.result.now after c.self.inside.entries.entries (c.get_mut.follows.lender after).entries wrote.0 wrote.4
    (omega (arith, found_some c.as_bytes.result.now c.self.inside.entries.entries c.in-Some.roles.now c.self.invariant.some c.in-Some.ensures.value, c.push.ensures.longer)) c.self.invariant

pub returns-in-Some-clause-users : goal.returns-in-Some-clause-users
returns-in-Some-clause-users c = λ test here all.
    let after : Texts = c.push.new.self in
    users_written (λ (group : Group). test group.user ≡ true) c.as_bytes.result.now after c.self.inside.entries.entries (c.get_mut.follows.lender after).entries c.args.self.now.groups (ap (λ (k : Kept). k.groups) c.self.view_is) (c.get_mut.follows.holds after).0
    (subst (λ (user : List ℕ). test user ≡ true) (sym c.as_bytes.ensures.value) here) all

pub returns-in-Some-clause-few : goal.returns-in-Some-clause-few
returns-in-Some-clause-few c =
    let after : Texts = c.push.new.self in
    omega (arith, (c.get_mut.follows.holds after).2, length-map (c.get_mut.follows.lender after).entries group_of, length-map c.self.inside.entries.entries group_of, ap (λ (k : Kept). length k.groups) c.self.view_is)

-- the user is new
pub invariant_of-self-2 : goal.invariant_of-self-2
invariant_of-self-2 c =
    kept_inserted c.get_mut.follows.lender-at-none.entries c.insert.new.self.entries c.in_ok-from_str.field-0 c.one-first.result c.in_ok-insert.ensures.unique c.in_ok-insert.ensures.entries
    (pushed_some [] c.one-first.result.items c.args.role c.one-first.ensures)
    (subst AreKept (ap (λ m. map group_of m.entries) (sym c.get_mut.follows.holds-at-none)) c.self.invariant)

pub returns-clause-roles : goal.returns-clause-roles
returns-clause-roles c = λ name.
    let old = c.get_mut.follows.lender-at-none.entries in
    let same = ap (λ m. map group_of m.entries) c.get_mut.follows.holds-at-none in
    let groups = same ∙ ap (λ (k : Kept). k.groups) c.self.view_is in
    let key : c.in_ok-from_str.field-0 ≡ c.args.user.now = c.in_ok-from_str.ensures in
    subst (λ (user : List ℕ). roles_under name (map group_of c.insert.new.self.entries) ≡ cond (bytes_eq name user) (roles_under user c.args.self.now.groups ++ c.args.role ∷ []) (roles_under name c.args.self.now.groups)) key
    (roles_more name c.in_ok-from_str.field-0 c.args.role old c.insert.new.self.entries c.one-first.result c.args.self.now.groups groups c.in_ok-insert.ensures.updates.3 c.in_ok-insert.ensures.updates.1
    (roles_first c.in_ok-from_str.field-0 c.args.role c.self.inside.entries.entries c.one-first.result.items c.args.self.now.groups (ap (λ (k : Kept). k.groups) c.self.view_is)
    (subst (λ (user : List ℕ). [] ≡ roles_under user (map group_of c.self.inside.entries.entries)) (c.as_bytes.ensures.value ∙ sym key) (roles_nowhere c.as_bytes.result.now c.self.inside.entries.entries (sym c.in_default.ensures.value)))
    c.one-first.ensures))

pub returns-clause-kept : goal.returns-clause-kept
returns-clause-kept c =
    kept_inserted c.get_mut.follows.lender-at-none.entries c.insert.new.self.entries c.in_ok-from_str.field-0 c.one-first.result c.in_ok-insert.ensures.unique c.in_ok-insert.ensures.entries
    (pushed_some [] c.one-first.result.items c.args.role c.one-first.ensures)
    (subst AreKept (ap (λ m. map group_of m.entries) (sym c.get_mut.follows.holds-at-none)) c.self.invariant)

pub returns-clause-users : goal.returns-clause-users
returns-clause-users c = λ test here all.
    users_inserted (λ (group : Group). test group.user ≡ true) c.get_mut.follows.lender-at-none.entries c.insert.new.self.entries c.in_ok-from_str.field-0 c.one-first.result c.args.self.now.groups
    (ap (λ m. map group_of m.entries) c.get_mut.follows.holds-at-none ∙ ap (λ (k : Kept). k.groups) c.self.view_is) c.in_ok-insert.ensures.entries
    (subst (λ (user : List ℕ). test user ≡ true) (sym c.in_ok-from_str.ensures) here) all

pub returns-clause-few : goal.returns-clause-few
returns-clause-few c =
    let old : length c.get_mut.follows.lender-at-none.entries ≡ length c.self.inside.entries.entries = ap (λ m. length m.entries) c.get_mut.follows.holds-at-none in
    omega (arith, one_more _ _ (is_some c.in_ok-insert.field-0) c.in_ok-insert.ensures.len, old, length-map c.insert.new.self.entries group_of, length-map c.self.inside.entries.entries group_of, ap (λ (k : Kept). length k.groups) c.self.view_is)
