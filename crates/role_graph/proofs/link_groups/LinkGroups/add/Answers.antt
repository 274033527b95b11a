use Rattle.std.proofs.Common.{◌≡◌, ◌<◌, ◌+◌, ◌∙◌, ℕ, List, true, false, length, ap, subst, sym}
use Rattle.perm_base.specs.Patterns.{is_pattern}
use Rattle.policy_table.specs.Tables.{same}
use Rattle.role_graph.specs.Groups.{row, rows_of, times}
use Rattle.role_graph.specs.Helps.Kept.{Parts, linked_of}
use Rattle.role_graph.proofs.Adding.{links_with_pattern, links_with_text, rows_with_pattern, rows_with_text}
use Rattle.role_graph.proofs.EditLemmas.{once}
use Rattle.role_graph.proofs.PutLemmas.{on_ok_then}
use Rattle.role_graph.proofs.link_groups.LinkGroups.add.Goals as goal

pub invariant_of-self : goal.invariant_of-self
invariant_of-self c =
    links_with_pattern c.self.inside.names c.self.inside.plain.groups c.self.inside.patterned.groups c.add.new.self.groups c.args.user.now
    (sym c.is_patterned.ensures ∙ c.if-is_patterned.true) c.self.invariant (subst (λ (p : Parts). length (rows_of (linked_of p).groups) < 200000) (sym c.self.view_is) c.requires) c.add.ensures.users c.add.ensures.kept c.add.ensures.few

pub invariant_of-self-else-is_patterned : goal.invariant_of-self-else-is_patterned
invariant_of-self-else-is_patterned c =
    links_with_text c.self.inside.names c.self.inside.plain.groups c.add-else-is_patterned.new.self.groups c.self.inside.patterned.groups c.args.user.now
    (sym c.is_patterned.ensures ∙ c.if-is_patterned.false) c.self.invariant (subst (λ (p : Parts). length (rows_of (linked_of p).groups) < 200000) (sym c.self.view_is) c.requires) c.add-else-is_patterned.ensures.users c.add-else-is_patterned.ensures.kept c.add-else-is_patterned.ensures.few

pub returns-then-is_patterned-clause-rows : goal.returns-then-is_patterned-clause-rows
returns-then-is_patterned-clause-rows c =
    let old : Parts = record { plain = c.self.inside.plain; patterned = c.self.inside.patterned; names = c.self.inside.names } in
    let few = subst (λ (p : Parts). length (rows_of (linked_of p).groups) < 200000) (sym c.self.view_is) c.requires in
    let is : is_pattern c.self.inside.names c.args.user.now ≡ true = sym c.is_patterned.ensures ∙ c.if-is_patterned.true in
    let still = links_with_pattern c.self.inside.names c.self.inside.plain.groups c.self.inside.patterned.groups c.add.new.self.groups c.args.user.now is c.self.invariant few c.add.ensures.users c.add.ensures.kept c.add.ensures.few in
    on_ok_then c.add.result _ _
    (λ roles one.
    rows_with_pattern old c.add.new.self c.args.user.now c.in_ok-text.text is c.self.invariant still roles one
    ∙ ap (λ (p : Parts). times one (rows_of (linked_of p).groups) + once (same one (row c.args.user.now c.in_ok-text.text))) c.self.view_is
    ∙ ap (λ (role : List ℕ). times one (rows_of (linked_of c.args.self.now).groups) + once (same one (row c.args.user.now role))) c.in_ok-text.ensures)
    c.add.ensures.roles

pub returns-else-is_patterned-clause-rows : goal.returns-else-is_patterned-clause-rows
returns-else-is_patterned-clause-rows c =
    let old : Parts = record { plain = c.self.inside.plain; patterned = c.self.inside.patterned; names = c.self.inside.names } in
    let few = subst (λ (p : Parts). length (rows_of (linked_of p).groups) < 200000) (sym c.self.view_is) c.requires in
    let is : is_pattern c.self.inside.names c.args.user.now ≡ false = sym c.is_patterned.ensures ∙ c.if-is_patterned.false in
    let still = links_with_text c.self.inside.names c.self.inside.plain.groups c.add-else-is_patterned.new.self.groups c.self.inside.patterned.groups c.args.user.now is c.self.invariant few c.add-else-is_patterned.ensures.users c.add-else-is_patterned.ensures.kept c.add-else-is_patterned.ensures.few in
    on_ok_then c.add-else-is_patterned.result _ _
    (λ roles one.
    rows_with_text old c.add-else-is_patterned.new.self c.args.user.now c.in_ok-text.text is c.self.invariant still roles one
    ∙ ap (λ (p : Parts). times one (rows_of (linked_of p).groups) + once (same one (row c.args.user.now c.in_ok-text.text))) c.self.view_is
    ∙ ap (λ (role : List ℕ). times one (rows_of (linked_of c.args.self.now).groups) + once (same one (row c.args.user.now role))) c.in_ok-text.ensures)
    c.add-else-is_patterned.ensures.roles
