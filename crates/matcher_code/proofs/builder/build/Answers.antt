use Rattle.std.proofs.Common.{◌≡◌, ap, ◌∙◌}
use Rattle.std.proofs.lemmas.Result.{IfOk-weaker}
use Rattle.matcher_read.specs.Expression.{expression}
use Rattle.matcher_meaning.specs.Comes.{takes_memory}
use Rattle.matcher_code.specs.Compiled.{code_of}
use Rattle.matcher_code.specs.RunEnds.{some_takes_memory}
use Rattle.matcher_code.specs.declared.code.Code.{Code}
use Rattle.matcher_code.proofs.BuildCode.{matcher_means, matcher_truth}
use Rattle.matcher_code.proofs.BuildTakers.{whole_takes}
use Rattle.matcher_code.proofs.builder.build.Goals as goal

pub returns-clause-truth : goal.returns-clause-truth
returns-clause-truth c =
    IfOk-weaker c.code_from.result (λ (code : Code). code.ops ≡ code_of c.args.model.now (expression c.matcher.result.now)) _
    (λ code is case r of_model comes. matcher_truth c.args.model.now c.matcher_text-kept.ensures.kept (expression c.matcher.result.now) c.matcher.ensures.value code.ops is case of_model r comes) c.code_from.ensures.ops

pub returns-clause-means : goal.returns-clause-means
returns-clause-means c =
    IfOk-weaker c.code_from.result (λ (code : Code). code.ops ≡ code_of c.args.model.now (expression c.matcher.result.now)) _
    (λ code is case t of_model comes. matcher_means c.args.model.now c.matcher_text-kept.ensures.kept (expression c.matcher.result.now) c.matcher.ensures.value code.ops is case of_model t comes) c.code_from.ensures.ops

pub returns-clause-takes : goal.returns-clause-takes
returns-clause-takes c =
    IfOk-weaker c.code_from.result (λ (code : Code). code.ops ≡ code_of c.args.model.now (expression c.matcher.result.now)) _
    (λ code is. ap some_takes_memory is ∙ whole_takes c.args.model.now (expression c.matcher.result.now) ∙ ap takes_memory c.matcher.ensures.value) c.code_from.ensures.ops
