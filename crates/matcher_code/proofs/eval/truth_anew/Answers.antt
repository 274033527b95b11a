use Rattle.std.proofs.Common.{rules, ℕ, refl, subst}
use Rattle.perm_value.specs.Datum as datum
use Rattle.regex_gate.specs.Refusals.{RefusedOnly}
use Rattle.matcher_meaning.specs.Cases.{where_refused}
use Rattle.matcher_code.specs.Helps.Ends.{case_for}
use Rattle.matcher_code.specs.Helps.Kept.{TextComesTo}
use Rattle.matcher_code.specs.RunEnds.{IsAnswer}
use Rattle.matcher_code.proofs.KeptLemmas.{no_code}
use Rattle.matcher_code.proofs.eval.truth_anew.Goals as goal

pub truth-truth-requires : goal.truth-truth-requires
truth-truth-requires g c = (search rules, (c.args.model.now, c.args.text.now, c.in-Ok.ensures.code))

pub returns-in-Err : goal.returns-in-Err
returns-in-Err g c =
    let case = case_for c.args.model.now c.args.asked (g.K.Links.shapes c.args.links.now) (g.K.Links.policy c.args.links.now) in
    no_code case c.args.at c.args.text.now (λ b. datum.truth b) (RefusedOnly (g.P.Finder.refusals c.args.finder.now) (g.P.Finder.refusals c.args.finder.now)) c.in-Err.stop c.in-Err.ensures.none refl

pub returns : goal.returns
returns g c =
    let case = case_for c.args.model.now c.args.asked (g.K.Links.shapes c.args.links.now) (g.K.Links.policy c.args.links.now) in
    subst (λ (place : ℕ). IsAnswer (λ refused answer. TextComesTo (where_refused case refused) place c.args.text.now answer) (λ b. datum.truth b) (RefusedOnly (g.P.Finder.refusals c.args.finder.now) (g.P.Finder.refusals c.truth-truth.new.finder)) c.truth-truth.result)
    c.in-Ok.ensures.at (c.truth-truth.ensures c.args.model.now c.args.text.now c.in-Ok.ensures.code)
