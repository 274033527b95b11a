use Rattle.std.proofs.Common.{None, Ok, inr, subst}
use Rattle.perm_value.specs.Datum as datum
use Rattle.perm_value.specs.Seen.{datum_of_view}
use Rattle.perm_value.specs.declared.value.View.{View}
use Rattle.regex_gate.specs.Refusals.{RefusedOnly}
use Rattle.matcher_meaning.specs.Cases.{where_refused}
use Rattle.matcher_meaning.specs.Comes.{RuleComesTo}
use Rattle.matcher_code.specs.Helps.Ends.{case_for}
use Rattle.matcher_code.specs.Helps.Kept.{TextComesTo}
use Rattle.matcher_code.specs.Machine.{CodeComesTo}
use Rattle.matcher_code.proofs.EvalLemmas.{rule_is_truth, stop_says}
use Rattle.matcher_code.proofs.KeptLemmas.{code_comes, code_without_eval}
use Rattle.matcher_code.proofs.rule_code.RuleCode.truth.Goals as goal

pub rule_value-requires-clause-height : goal.rule_value-requires-clause-height
rule_value-requires-clause-height g c = λ lifetimes outlive. c.requires.2.height

pub rule_value-requires-clause-evals : goal.rule_value-requires-clause-evals
rule_value-requires-clause-evals g c = λ lifetimes outlive. code_without_eval c.requires.0 c.requires.1 c.args.self.now c.requires.2

pub returns-in-Err : goal.returns-in-Err
returns-in-Err g c = λ model text is.
    (let case = case_for model c.args.asked (g.K.Links.shapes c.args.links.now) (g.K.Links.policy c.args.links.now) in
    stop_says (λ refused answer. CodeComesTo (where_refused case refused) c.args.self.now.code.ops answer) (λ refused answer. TextComesTo (where_refused case refused) c.args.self.now.at text answer) datum_of_view (λ b. datum.truth b)
    (RefusedOnly (g.P.Finder.refusals c.args.finder.now) (g.P.Finder.refusals c.rule_value.new.finder)) c.in-Err.stop (λ refused answer comes. inr (is.rule, is.says, code_comes (where_refused case refused) text c.args.self.now is answer comes)) (c.in-Err.ensures model))

pub unreachable-requires : goal.unreachable-requires
unreachable-requires g c =
    let case = where_refused (case_for c.requires.0 c.args.asked (g.K.Links.shapes c.args.links.now) (g.K.Links.policy c.args.links.now)) None in
    let comes = code_comes case c.requires.1 c.args.self.now c.requires.2 (Ok (datum_of_view c.in-Ok.value)) (c.in-Ok.ensures c.requires.0).1 in
    let truth = rule_is_truth case c.args.self.now.at c.requires.2.rule c.in-Ok.value comes in
    c.in_default.not-Truth truth.0 truth.1

pub returns : goal.returns
returns g c = λ model text is.
    (let case = where_refused (case_for model c.args.asked (g.K.Links.shapes c.args.links.now) (g.K.Links.policy c.args.links.now)) None in
    let comes = code_comes case text c.args.self.now is (Ok (datum_of_view c.in-Ok.value)) (c.in-Ok.ensures model).1 in
    ((c.in-Ok.ensures model).0, inr (is.rule, is.says, subst (λ (v : View). RuleComesTo case c.args.self.now.at is.rule (Ok (datum_of_view v))) c.in-Truth.is comes)))
