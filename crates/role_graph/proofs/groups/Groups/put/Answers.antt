use Rattle.std.proofs.Common.{◌≡◌, ◌∙◌, ℕ, true, List, cond, length, map, ap, refl, sym, subst}
use Rattle.std.specs.Prelude.{All}
use Rattle.std.specs.Str.{bytes_eq}
use Rattle.indexmap.specs.IndexMap.{insert_entry}
use Rattle.role_graph.specs.Groups.{Group}
use Rattle.role_graph.specs.Helps.Kept.{AreKept, Kept, group_of, roles_under}
use Rattle.role_graph.proofs.PutLemmas.{given, kept_inserted, kept_removed, no_items, roles_given, roles_removed, some_length, users_inserted, users_removed}
use Rattle.role_graph.proofs.groups.Groups.put.Goals.{in-Some-2, in-None-2}
use Rattle.role_graph.proofs.groups.Groups.put.Goals as goal

pub invariant_of-self : goal.invariant_of-self
invariant_of-self c =
    kept_removed (bytes_eq c.bytes.result.now) c.self.inside.entries.entries c.swap_remove-gone.new.self.entries c.swap_remove-gone.ensures.unique c.swap_remove-gone.ensures.entries c.self.invariant

pub returns-then-is_empty-clause-kept : goal.returns-then-is_empty-clause-kept
returns-then-is_empty-clause-kept c =
    kept_removed (bytes_eq c.bytes.result.now) c.self.inside.entries.entries c.swap_remove-gone.new.self.entries c.swap_remove-gone.ensures.unique c.swap_remove-gone.ensures.entries c.self.invariant

pub invariant_of-self-else-is_empty : goal.invariant_of-self-else-is_empty
invariant_of-self-else-is_empty c =
    kept_inserted c.self.inside.entries.entries c.insert.new.self.entries c.args.user c.args.roles c.insert.ensures.unique
    (given c.insert.result c.unwrap-old.result (c.insert.new.self.entries ≡ insert_entry bytes_eq c.self.inside.entries.entries c.args.user c.args.roles) c.unwrap-old.ensures c.insert.ensures.entries)
    (some_length (length c.args.roles.items) c.is_empty.result c.is_empty.ensures c.if-is_empty.false) c.self.invariant

pub invariant_of-self-else-is_empty-2 : goal.invariant_of-self-else-is_empty-2
invariant_of-self-else-is_empty-2 c =
    kept_inserted c.self.inside.entries.entries c.insert.new.self.entries c.args.user c.args.roles c.insert.ensures.unique
    (given c.insert.result c.unwrap-old.result (c.insert.new.self.entries ≡ insert_entry bytes_eq c.self.inside.entries.entries c.args.user c.args.roles) c.unwrap-old.ensures c.insert.ensures.entries)
    (some_length (length c.args.roles.items) c.is_empty.result c.is_empty.ensures c.if-is_empty.false) c.self.invariant

pub returns-then-is_empty-clause-roles : goal.returns-then-is_empty-clause-roles
returns-then-is_empty-clause-roles c = λ name.
    roles_removed name c.bytes.result.now c.args.roles.items c.self.inside.entries.entries c.swap_remove-gone.new.self.entries c.swap_remove-gone.ensures.updates.3 c.swap_remove-gone.ensures.updates.1
    (no_items (length c.args.roles.items) c.args.roles.items c.is_empty.result refl c.is_empty.ensures c.if-is_empty.true)
    ∙ ap (λ (user : List ℕ). cond (bytes_eq name user) c.args.roles.items (roles_under name (map group_of c.self.inside.entries.entries))) c.bytes.ensures
    ∙ ap (λ (k : Kept). cond (bytes_eq name c.args.user) c.args.roles.items (roles_under name k.groups)) c.self.view_is

pub returns-then-is_empty-clause-users : goal.returns-then-is_empty-clause-users
returns-then-is_empty-clause-users c = λ test here all.
    users_removed (λ (group : Group). test group.user ≡ true) (bytes_eq c.bytes.result.now) c.self.inside.entries.entries c.swap_remove-gone.new.self.entries c.args.self.now.groups
    (ap (λ (k : Kept). k.groups) c.self.view_is) c.swap_remove-gone.ensures.entries all

pub returns-else-is_empty-clause-roles : goal.returns-else-is_empty-clause-roles
returns-else-is_empty-clause-roles c = λ name.
    let put : roles_under name (map group_of c.insert.new.self.entries) ≡ cond (bytes_eq name c.args.user) c.args.roles.items (roles_under name c.args.self.now.groups) =
    roles_given name c.self.inside.entries.entries c.insert.new.self.entries c.args.user c.args.roles c.args.self.now.groups (ap (λ (k : Kept). k.groups) c.self.view_is)
    (given c.insert.result c.unwrap-old.result (c.insert.new.self.entries ≡ insert_entry bytes_eq c.self.inside.entries.entries c.args.user c.args.roles) c.unwrap-old.ensures c.insert.ensures.entries) in
    (elim c.match-old.branch [
      | in-Some-2 w ↦ ap (λ (k : Kept). roles_under name k.groups) w.self-is
      | in-None-2 w ↦ ap (λ (k : Kept). roles_under name k.groups) w.self-is
    ]) ∙ put

pub returns-else-is_empty-clause-users : goal.returns-else-is_empty-clause-users
returns-else-is_empty-clause-users c = λ test here all.
    let put : All (λ (group : Group). test group.user ≡ true) (map group_of c.insert.new.self.entries) =
    users_inserted (λ (group : Group). test group.user ≡ true) c.self.inside.entries.entries c.insert.new.self.entries c.args.user c.args.roles c.args.self.now.groups (ap (λ (k : Kept). k.groups) c.self.view_is)
    (given c.insert.result c.unwrap-old.result (c.insert.new.self.entries ≡ insert_entry bytes_eq c.self.inside.entries.entries c.args.user c.args.roles) c.unwrap-old.ensures c.insert.ensures.entries) here all in
    elim c.match-old.branch [
      | in-Some-2 w ↦ subst (λ (k : Kept). All (λ (group : Group). test group.user ≡ true) k.groups) (sym w.self-is) put
      | in-None-2 w ↦ subst (λ (k : Kept). All (λ (group : Group). test group.user ≡ true) k.groups) (sym w.self-is) put
    ]

pub returns-else-is_empty-clause-kept : goal.returns-else-is_empty-clause-kept
returns-else-is_empty-clause-kept c =
    let put : AreKept (map group_of c.insert.new.self.entries) =
    kept_inserted c.self.inside.entries.entries c.insert.new.self.entries c.args.user c.args.roles c.insert.ensures.unique
    (given c.insert.result c.unwrap-old.result (c.insert.new.self.entries ≡ insert_entry bytes_eq c.self.inside.entries.entries c.args.user c.args.roles) c.unwrap-old.ensures c.insert.ensures.entries)
    (some_length (length c.args.roles.items) c.is_empty.result c.is_empty.ensures c.if-is_empty.false) c.self.invariant in
    elim c.match-old.branch [
      | in-Some-2 w ↦ subst (λ (k : Kept). AreKept k.groups) (sym w.self-is) put
      | in-None-2 w ↦ subst (λ (k : Kept). AreKept k.groups) (sym w.self-is) put
    ]
