use Rattle.std.proofs.Common.{[], get_or, subst}
use Rattle.model_conf.specs.Columns.{AreColumns}
use Rattle.perm_value.specs.Datum as datum
use Rattle.regex_gate.specs.Refusals.{RefusedOnly}
use Rattle.matcher_meaning.specs.Cases.{where_refused}
use Rattle.matcher_meaning.specs.Comes.{Evaluates}
use Rattle.matcher_code.specs.Helps.Ends.{case_for}
use Rattle.matcher_code.specs.Helps.Kept.{TextComesTo}
use Rattle.matcher_code.proofs.EvalLemmas.{answer_says, eval_text}
use Rattle.matcher_code.proofs.eval.evaluated.Goals as goal

pub returns : goal.returns
returns g c =
    let case = case_for c.args.model.now c.args.asked (g.K.Links.shapes c.args.links.now) (g.K.Links.policy c.args.links.now) in
    let are = subst AreColumns c.policy_columns-columns.ensures.value c.policy_columns-columns.ensures.columns in
    answer_says (λ refused answer. TextComesTo (where_refused case refused) c.args.at c.text_of.result.now answer) (λ refused answer. Evaluates (where_refused case refused) c.args.at (get_or c.args.model.now.policy c.args.column []) answer) (λ b. datum.truth b)
    (RefusedOnly (g.P.Finder.refusals c.args.finder.now) (g.P.Finder.refusals c.text_truth.new.finder)) c.text_truth.result
    (λ refused answer comes. eval_text (where_refused case refused) c.args.at c.args.column c.text_of.result.now answer are c.requires c.text_of.ensures comes) c.text_truth.ensures
