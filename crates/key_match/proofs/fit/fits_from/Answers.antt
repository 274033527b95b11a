use Rattle.std.proofs.Common.{drop, sym, subst, ⊎_elim}
use Rattle.key_match.specs.Helps.Fits.{pieces_fit, stretch_fits, end_fits, pieces_from, Reaches}
use Rattle.key_match.specs.declared.fit.Reach.{Reach}
use Rattle.key_match.proofs.Bools.{false_by}
use Rattle.key_match.proofs.Leads.{stretch-here, end-here}
use Rattle.key_match.proofs.fit.fits_from.Goals as goal

pub returns-in-NotHere : goal.returns-in-NotHere
returns-in-NotHere c =
    let pieces = pieces_from c.args.dialect c.args.pattern.now c.args.from in
    let f = pieces_fit pieces in
    let t = drop c.args.from.key c.args.key.now in
    let Found : Reach → Type 0 = λ reach. Reaches c.args.dialect c.args.pattern.now c.args.key.now pieces c.args.from reach in
    sym (⊎_elim (λ e. subst Found e c.reach_rest.ensures)
    (⊎_elim (λ e. false_by (f t) (stretch_fits f t) (stretch-here f t) (subst Found e c.reach_rest.ensures))
    (λ e. false_by (f t) (end_fits f t) (end-here f t) (subst Found e c.reach_rest.ensures)))
    c.in-NotHere.is)
