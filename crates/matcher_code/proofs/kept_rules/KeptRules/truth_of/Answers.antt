use Rattle.std.proofs.Common.{List, ℕ, subst}
use Rattle.std.specs.Prelude.{IfSome}
use Rattle.perm_value.specs.Datum as datum
use Rattle.regex_gate.specs.Refusals.{RefusedOnly}
use Rattle.matcher_meaning.specs.Cases.{where_refused}
use Rattle.matcher_code.specs.Helps.Ends.{case_for}
use Rattle.matcher_code.specs.Helps.Kept.{TextComesTo}
use Rattle.matcher_code.specs.RunEnds.{IsAnswer}
use Rattle.matcher_code.proofs.kept_rules.KeptRules.truth_of.Goals as goal

pub returns-clause-comes : goal.returns-clause-comes
returns-clause-comes g c =
    let case = case_for c.args.model.now c.args.asked (g.K.Links.shapes c.args.links.now) (g.K.Links.policy c.args.links.now) in
    subst (λ (text : List ℕ). IfSome c.truth_under.result (IsAnswer (λ refused answer. TextComesTo (where_refused case refused) c.args.at text answer) (λ b. datum.truth b) (RefusedOnly (g.P.Finder.refusals c.args.finder.now) (g.P.Finder.refusals c.truth_under.new.finder))))
    c.as_bytes.ensures.value c.truth_under.ensures.comes
