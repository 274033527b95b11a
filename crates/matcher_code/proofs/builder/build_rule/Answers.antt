use Rattle.std.proofs.Common.{◌≡◌, ap, ◌∙◌}
use Rattle.std.proofs.lemmas.Result.{IfOk-weaker}
use Rattle.matcher_read.specs.Expression.{expression}
use Rattle.matcher_meaning.specs.Comes.{all_at}
use Rattle.matcher_meaning.proofs.CallerLemmas.{placed_eval}
use Rattle.matcher_code.specs.Compiled.{code_of, has_eval_op, has_search_op}
use Rattle.matcher_code.specs.declared.code.Code.{Code}
use Rattle.matcher_code.proofs.BuildCode.{rule_comes}
use Rattle.matcher_code.proofs.BuildTakers.{placed_searches, whole_evaluates, whole_searches}
use Rattle.matcher_code.proofs.builder.build_rule.Goals as goal

pub returns-clause-means : goal.returns-clause-means
returns-clause-means c =
    IfOk-weaker c.code_from.result (λ (code : Code). code.ops ≡ code_of c.args.model.now (all_at c.args.at (expression c.args.rule.now))) _
    (λ code is case r of_model comes. rule_comes c.args.model.now (expression c.args.rule.now) c.args.at code.ops c.requires is case r of_model comes) c.code_from.ensures.ops

pub returns-clause-evals : goal.returns-clause-evals
returns-clause-evals c =
    IfOk-weaker c.code_from.result (λ (code : Code). code.ops ≡ code_of c.args.model.now (all_at c.args.at (expression c.args.rule.now))) _
    (λ code is. ap has_eval_op is ∙ whole_evaluates c.args.model.now (all_at c.args.at (expression c.args.rule.now)) ∙ placed_eval c.args.at (expression c.args.rule.now) ∙ c.requires.1.no_eval) c.code_from.ensures.ops

pub returns-clause-searches : goal.returns-clause-searches
returns-clause-searches c =
    IfOk-weaker c.code_from.result (λ (code : Code). code.ops ≡ code_of c.args.model.now (all_at c.args.at (expression c.args.rule.now))) _
    (λ code is. ap has_search_op is ∙ whole_searches c.args.model.now (all_at c.args.at (expression c.args.rule.now)) ∙ placed_searches c.args.at (expression c.args.rule.now)) c.code_from.ensures.ops
