use Rattle.std.proofs.Common.{ap, codes, ◌∙◌}
use Rattle.std.proofs.lemmas.Result.{IfOk-weaker}
use Rattle.clap.specs.Words.{App, with_rule}
use Rattle.command_words.specs.Helps.Matched.{option_rule}
use Rattle.command_words.proofs.described.with_workers.Goals as goal

pub returns : goal.returns
returns c = IfOk-weaker c.with_option.result _ _ (λ after is. is ∙ ap (λ (a : App). with_rule a (option_rule (codes "workers"))) c.in_ok-plain.ensures) c.with_option.ensures
