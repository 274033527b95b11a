use Rattle.std.proofs.Common.{◌∙◌, List, ap, sym, subst}
use Rattle.perm_base.specs.Patterns.{is_pattern}
use Rattle.role_graph.specs.Groups.{Group}
use Rattle.role_graph.specs.Helps.Kept.{AreLinks, Parts}
use Rattle.role_graph.proofs.ChangeLemmas.{IsChanging, changed_links, changed_rows, changing_pattern, changing_text}
use Rattle.role_graph.proofs.link_groups.LinkGroups.change.Goals as goal

pub loop-user-preserved-then-is_pattern : goal.loop-user-preserved-then-is_pattern
loop-user-preserved-then-is_pattern c =
    changing_pattern c.args.self.now c.args.edits c.loop-user.edits c.pop.new.self c.loop-user.self-inside.names c.loop-user.self-inside.plain c.loop-user.self-inside.patterned c.put.new.self
    (record { user = c.in-Some.user; roles = c.in-Some.roles.items }) c.in-Some.ensures.some
    (sym (c.is_pattern.ensures ∙ ap (is_pattern c.loop-user.self-inside.names) c.bytes.ensures) ∙ c.if-is_pattern.true)
    c.put.ensures.roles c.put.ensures.users c.put.ensures.kept c.put.ensures.spare c.loop-user.invariant

pub loop-user-preserved : goal.loop-user-preserved
loop-user-preserved c =
    changing_text c.args.self.now c.args.edits c.loop-user.edits c.pop.new.self c.loop-user.self-inside.names c.loop-user.self-inside.plain c.put-else-is_pattern.new.self c.loop-user.self-inside.patterned
    (record { user = c.in-Some.user; roles = c.in-Some.roles.items }) c.in-Some.ensures.some
    (sym (c.is_pattern.ensures ∙ ap (is_pattern c.loop-user.self-inside.names) c.bytes.ensures) ∙ c.if-is_pattern.false)
    c.put-else-is_pattern.ensures.roles c.put-else-is_pattern.ensures.users c.put-else-is_pattern.ensures.kept c.put-else-is_pattern.ensures.spare c.loop-user.invariant

pub invariant_of-self : goal.invariant_of-self
invariant_of-self c =
    let now : Parts = record { plain = c.loop-user.self-inside.plain; patterned = c.loop-user.self-inside.patterned; names = c.loop-user.self-inside.names } in
    changed_links c.args.self.now c.args.edits now (subst (λ (p : Parts). AreLinks p.names p.plain.groups p.patterned.groups) c.self.view_is c.self.invariant) c.requires.once c.requires.few
    (subst (λ (left : List Group). IsChanging c.args.self.now c.args.edits left now) c.in_default.ensures.none c.loop-user.invariant)

pub returns-clause-sound : goal.returns-clause-sound
returns-clause-sound c =
    let now : Parts = record { plain = c.loop-user.self-inside.plain; patterned = c.loop-user.self-inside.patterned; names = c.loop-user.self-inside.names } in
    changed_links c.args.self.now c.args.edits now (subst (λ (p : Parts). AreLinks p.names p.plain.groups p.patterned.groups) c.self.view_is c.self.invariant) c.requires.once c.requires.few
    (subst (λ (left : List Group). IsChanging c.args.self.now c.args.edits left now) c.in_default.ensures.none c.loop-user.invariant)

pub returns-clause-rows : goal.returns-clause-rows
returns-clause-rows c =
    let now : Parts = record { plain = c.loop-user.self-inside.plain; patterned = c.loop-user.self-inside.patterned; names = c.loop-user.self-inside.names } in
    changed_rows c.args.self.now c.args.edits now (subst (λ (p : Parts). AreLinks p.names p.plain.groups p.patterned.groups) c.self.view_is c.self.invariant) c.requires.once
    (subst (λ (left : List Group). IsChanging c.args.self.now c.args.edits left now) c.in_default.ensures.none c.loop-user.invariant)
