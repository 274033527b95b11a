use Rattle.std.proofs.Common.{◌≡◌, ap, ◌∙◌, rules}
use Rattle.std.proofs.lemmas.Result.{IfOk-weaker}
use Rattle.clap.specs.Words.{app_of, rule_of, with_rule}
use Rattle.command_words.specs.Helps.Matched.{flag_rule}
use Rattle.command_words.proofs.described.with_flag.Goals as goal

pub returns : goal.returns
returns c =
    let is : rule_of c.action-flag.result ≡ flag_rule = search rules in
    IfOk-weaker c.arg.result _ _ (λ after added. added.shape (search rules) ∙ ap (with_rule (app_of c.args.command)) is) c.arg.ensures
