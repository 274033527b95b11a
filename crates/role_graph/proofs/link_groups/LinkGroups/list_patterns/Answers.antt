use Rattle.std.proofs.Common.{◌≡◌, ◌<◌, ◌+◌, ◌∙◌, ℕ, length, sym, ap, subst, arith}
use Rattle.std.proofs.lemmas.Bool.{false≢true}
use Rattle.role_meaning.specs.Fits.{Fits}
use Rattle.role_graph.specs.Helps.Kept.{Parts, linked_of}
use Rattle.role_graph.specs.Helps.Lists.{Lists}
use Rattle.role_graph.specs.Helps.Walks.{FitsAt}
use Rattle.role_graph.proofs.ShortLists.{FitsPattern, patterns_first, patterns_last, patterns_on, patterns_past}
use Rattle.role_graph.proofs.link_groups.LinkGroups.list_patterns.Goals as goal

pub loop-at-init : goal.loop-at-init
loop-at-init c = patterns_first c.args.self.now c.args.name.now c.args.listed.now.items

pub loop-at-preserved-then-not-fits : goal.loop-at-preserved-then-not-fits
loop-at-preserved-then-not-fits c =
    let parts : Parts = record { plain = c.self.inside.plain; patterned = c.self.inside.patterned; names = c.self.inside.names } in
    subst (λ (p : Parts). Lists (FitsPattern p c.args.name.now (c.loop-at.at + 1)) (FitsAt (linked_of p) c.args.name.now) c.args.listed.now.items c.loop-at.listed.items) c.self.view_is
    (patterns_past parts c.args.name.now c.loop-at.at c.args.listed.now.items c.loop-at.listed.items
    (λ fits. false≢true (sym c.if-not-fits.true ∙ c.fits.ensures.1 (subst (Fits c.self.inside.names c.args.name.now) (sym c.user_at.ensures) fits)))
    (subst (λ (p : Parts). Lists (FitsPattern p c.args.name.now c.loop-at.at) (FitsAt (linked_of p) c.args.name.now) c.args.listed.now.items c.loop-at.listed.items) (sym c.self.view_is) c.loop-at.invariant))

pub loop-at-preserved : goal.loop-at-preserved
loop-at-preserved c =
    let parts : Parts = record { plain = c.self.inside.plain; patterned = c.self.inside.patterned; names = c.self.inside.names } in
    let within : c.loop-at.at < length c.self.inside.patterned.groups = omega (arith, c.len-at-end.ensures, c.loop-at-test.true) in
    subst (λ (p : Parts). Lists (FitsPattern p c.args.name.now (c.loop-at.at + 1)) (FitsAt (linked_of p) c.args.name.now) c.args.listed.now.items c.list_one.new.listed.items) c.self.view_is
    (patterns_on parts c.args.name.now c.loop-at.at c.args.listed.now.items c.loop-at.listed.items c.list_one.new.listed.items within
    (subst (Fits c.self.inside.names c.args.name.now) c.user_at.ensures (c.fits.ensures.0 c.if-not-fits.false))
    (subst (λ (n : ℕ). Lists (λ at. at ≡ n + c.loop-at.at) (λ at. at ≡ n + c.loop-at.at) c.loop-at.listed.items c.list_one.new.listed.items) c.len-count.ensures (c.list_one.ensures c.if-not-list_one.false))
    (subst (λ (p : Parts). Lists (FitsPattern p c.args.name.now c.loop-at.at) (FitsAt (linked_of p) c.args.name.now) c.args.listed.now.items c.loop-at.listed.items) (sym c.self.view_is) c.loop-at.invariant))

pub returns : goal.returns
returns c = λ yes.
    let end : c.len-at-end.result ≡ length c.args.self.now.patterned.groups = c.len-at-end.ensures ∙ ap (λ (p : Parts). length p.patterned.groups) c.self.view_is in
    patterns_last c.args.self.now c.args.name.now c.loop-at.at c.args.listed.now.items c.loop-at.listed.items (omega (arith, end, c.loop-at-test.false)) c.loop-at.invariant
