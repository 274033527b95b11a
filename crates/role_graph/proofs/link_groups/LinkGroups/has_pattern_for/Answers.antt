use Rattle.std.proofs.Common.{◌≡◌, ◌<◌, ◌≤◌, ◌+◌, ◌∙◌, ℕ, IsTrue, true, length, refl, sym, ap, subst, arith}
use Rattle.std.specs.Prelude.{◌↔◌}
use Rattle.std.proofs.lemmas.Bool.{false≢true}
use Rattle.role_meaning.specs.Fits.{Fits}
use Rattle.role_graph.specs.Helps.Kept.{Parts, linked_of}
use Rattle.role_graph.specs.Helps.Walks.{FitsAt}
use Rattle.role_graph.proofs.LinkLemmas.{FitsNone, fits_none_all, fits_none_first, fits_none_more, pattern_fits}
use Rattle.role_graph.proofs.link_groups.LinkGroups.has_pattern_for.Goals as goal

pub loop-at-init : goal.loop-at-init
loop-at-init c = fits_none_first c.args.self.now c.args.name.now

pub returns-then-fits : goal.returns-then-fits
returns-then-fits c =
    let parts : Parts = record { plain = c.self.inside.plain; patterned = c.self.inside.patterned; names = c.self.inside.names } in
    let within : c.loop-at.at < length c.self.inside.patterned.groups = omega (arith, c.len-at-end.ensures, c.loop-at-test.true) in
    subst (λ (p : Parts). IsTrue true ↔ ((x : ℕ) × (length p.plain.groups ≤ x) × FitsAt (linked_of p) c.args.name.now x)) c.self.view_is (
      (λ holds. (
        length c.self.inside.plain.groups + c.loop-at.at,
        omega arith,
        pattern_fits parts c.args.name.now c.loop-at.at within
            (subst (Fits c.self.inside.names c.args.name.now) c.user_at.ensures (c.fits.ensures.0 c.if-fits.true)),
      )),
      λ fits. refl,
    )

pub loop-at-preserved : goal.loop-at-preserved
loop-at-preserved c =
    let parts : Parts = record { plain = c.self.inside.plain; patterned = c.self.inside.patterned; names = c.self.inside.names } in
    subst (λ (p : Parts). FitsNone p c.args.name.now (c.loop-at.at + 1)) c.self.view_is
    (fits_none_more parts c.args.name.now c.loop-at.at
    (λ fits. false≢true (sym c.if-fits.false ∙ c.fits.ensures.1 (subst (Fits c.self.inside.names c.args.name.now) (sym c.user_at.ensures) fits)))
    (subst (λ (p : Parts). FitsNone p c.args.name.now c.loop-at.at) (sym c.self.view_is) c.loop-at.invariant))

pub returns : goal.returns
returns c =
    let end : c.len-at-end.result ≡ length c.args.self.now.patterned.groups = c.len-at-end.ensures ∙ ap (λ (p : Parts). length p.patterned.groups) c.self.view_is in
    (λ holds. absurd (false≢true holds), λ fits. absurd (fits_none_all c.args.self.now c.args.name.now c.loop-at.at (omega (arith, end, c.loop-at-test.false)) c.loop-at.invariant fits))
