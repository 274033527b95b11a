use Rattle.std.proofs.Common.{◌≡◌, [], true, ap, ap₂, ◌∙◌, rules}
use Rattle.std.proofs.lemmas.Result.{IfOk-weaker}
use Rattle.clap.specs.Simple.{App, app_of_fields, on_top}
use Rattle.clap.specs.Words.{app_of, rule_of, with_rule}
use Rattle.command_words.specs.Helps.Matched.{app_of_rules, operands_rule}
use Rattle.command_words.proofs.described.bare.Goals as goal

pub returns : goal.returns
returns c =
    let is : rule_of c.action-operands.result ≡ operands_rule = search rules in
    let named : app_of c.no_binary_name.result ≡ on_top (λ s. record s { no_binary_name = true }) (app_of c.new-2.result) = ap app_of_fields c.no_binary_name.ensures in
    let quiet : app_of c.disable_help_flag-command.result ≡ on_top (λ s. record s { disable_help_flag = true }) (app_of c.no_binary_name.result) = ap app_of_fields c.disable_help_flag-command.ensures in
    let start : app_of c.disable_help_flag-command.result ≡ app_of_rules [] =
    quiet ∙ ap (λ (a : App). on_top (λ s. record s { disable_help_flag = true }) a) (named ∙ ap (λ (a : App). on_top (λ s. record s { no_binary_name = true }) a) c.new-2.ensures.app) in
    IfOk-weaker c.arg.result _ _ (λ after added. added.shape (search rules) ∙ ap₂ with_rule start is) c.arg.ensures
