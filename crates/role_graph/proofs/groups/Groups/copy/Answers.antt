use Rattle.std.proofs.Common.{length, ap, subst, sym, ◌∙◌, arith}
use Rattle.std.proofs.lemmas.List.{length-map}
use Rattle.role_graph.specs.Helps.Kept.{AreKept, Kept, group_of}
use Rattle.role_graph.proofs.CopyLemmas.{group_copied, groups_copied}
use Rattle.role_graph.proofs.groups.Groups.copy.Goals as goal

pub loop-at-preserved : goal.loop-at-preserved
loop-at-preserved c =
    group_copied c.args.self.now.groups c.loop-at.entries.entries c.insert.new.self.entries c.loop-at.at c.in_ok-user.user c.in_ok-roles.roles (subst (λ (k : Kept). AreKept k.groups) c.self.view_is c.self.invariant).once
    (omega (arith, c.loop-at-test.true, c.len-len.ensures.len, length-map c.self.inside.entries.entries group_of, ap (λ (k : Kept). length k.groups) c.self.view_is))
    (c.in_ok-user.ensures ∙ c.name_at.ensures) (c.in_ok-roles.ensures ∙ c.roles_at.ensures) c.loop-at.invariant c.in_ok-_none.ensures.entries

pub returns : goal.returns
returns c =
    groups_copied c.args.self.now.groups c.loop-at.entries.entries c.loop-at.at
    (omega (arith, c.loop-at-test.false, c.len-len.ensures.len, length-map c.self.inside.entries.entries group_of, ap (λ (k : Kept). length k.groups) c.self.view_is)) c.loop-at.invariant

pub invariant_of-result : goal.invariant_of-result
invariant_of-result c =
    subst AreKept
    (ap (λ (k : Kept). k.groups) c.self.view_is
    ∙ sym (groups_copied c.args.self.now.groups c.loop-at.entries.entries c.loop-at.at
    (omega (arith, c.loop-at-test.false, c.len-len.ensures.len, length-map c.self.inside.entries.entries group_of, ap (λ (k : Kept). length k.groups) c.self.view_is)) c.loop-at.invariant))
    c.self.invariant
