use Rattle.std.proofs.Common.{rules, ◌≡◌, subst}
use Rattle.perm_value.specs.Datum as datum
use Rattle.regex_gate.specs.Refusals.{Refusals, RefusedOnly}
use Rattle.matcher_meaning.specs.Cases.{where_refused}
use Rattle.matcher_code.specs.Helps.Ends.{case_for}
use Rattle.matcher_code.specs.Helps.Kept.{TextComesTo}
use Rattle.matcher_code.specs.RunEnds.{IsAnswer}
use Rattle.matcher_code.proofs.eval.text_truth.Goals as goal

pub returns : goal.returns
returns g c =
    let case = case_for c.args.model.now c.args.asked (g.K.Links.shapes c.args.links.now) (g.K.Links.policy c.args.links.now) in
    let untouched : g.P.Finder.refusals c.truth_of.new.finder ≡ g.P.Finder.refusals c.args.finder.now = search rules in
    subst (λ (old : Refusals). IsAnswer (λ refused answer. TextComesTo (where_refused case refused) c.args.at c.args.text.now answer) (λ b. datum.truth b) (RefusedOnly old (g.P.Finder.refusals c.truth_anew.new.finder)) c.truth_anew.result) untouched c.truth_anew.ensures
