use Rattle.std.proofs.Common.{◌∙◌, refl, sym}
use Rattle.std.proofs.lemmas.Bool.{false≢true}
use Rattle.role_graph.specs.Helps.Kept.{linked_of}
use Rattle.role_graph.proofs.LeadLemmas.{no_marked_first, no_marked_last, no_marked_on}
use Rattle.role_graph.proofs.users.fits_marked.Goals as goal

pub loop-at-init : goal.loop-at-init
loop-at-init c = no_marked_first (linked_of c.args.links.now) c.args.marks.now c.args.name.now

pub returns-then-has : goal.returns-then-has
returns-then-has c = (λ holds. record { at = c.in-Some.at; fits = c.in-Some.ensures.found.1; marked = c.has.ensures.0 c.if-has.true }, λ found. refl)

pub loop-at-preserved : goal.loop-at-preserved
loop-at-preserved c =
    no_marked_on (linked_of c.args.links.now) c.args.marks.now c.args.name.now c.loop-at.place c.in-Some.at c.in-Some.ensures.first (λ one. false≢true (sym c.if-has.false ∙ c.has.ensures.1 one)) c.loop-at.invariant

pub returns : goal.returns
returns c = (
  λ holds. absurd (false≢true holds),
  λ found. absurd (no_marked_last (linked_of c.args.links.now) c.args.marks.now c.args.name.now c.loop-at.place c.in_default.ensures.none c.loop-at.invariant found),
)
