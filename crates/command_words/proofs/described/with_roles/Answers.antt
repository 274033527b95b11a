use Rattle.std.proofs.Common.{ap, codes, ◌∙◌}
use Rattle.std.proofs.lemmas.Result.{IfOk-weaker}
use Rattle.clap.specs.Words.{App, with_rule}
use Rattle.command_words.specs.Helps.Matched.{option_rule}
use Rattle.command_words.proofs.described.with_roles.Goals as goal

pub returns : goal.returns
returns c =
    let two = c.in_ok-matched.ensures ∙ ap (λ (a : App). with_rule a (option_rule (codes "match"))) c.in_ok-limited.ensures in
    IfOk-weaker c.with_option-3.result _ _ (λ after is. is ∙ ap (λ (a : App). with_rule a (option_rule (codes "domain-match"))) two) c.with_option-3.ensures
