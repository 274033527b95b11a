use Rattle.std.proofs.Common.{ap, ◌∙◌}
use Rattle.std.proofs.lemmas.Result.{IfOk-weaker}
use Rattle.clap.specs.Words.{App, with_rule}
use Rattle.command_words.specs.Commands.{role_options}
use Rattle.command_words.specs.Helps.Matched.{flag_rule, option_rule, with_options}
use Rattle.command_words.proofs.described.flagged.Goals as goal

pub returns : goal.returns
returns c =
    let start = ap (λ (a : App). with_rule a (option_rule c.args.own.now)) c.in_ok-plain.ensures in
    let all = c.in_ok-complete.ensures ∙ ap (λ (a : App). with_options a role_options) (c.in_ok-extended.ensures ∙ start) in
    IfOk-weaker c.with_flag.result _ _ (λ after is. is ∙ ap (λ (a : App). with_rule a flag_rule) all) c.with_flag.ensures
