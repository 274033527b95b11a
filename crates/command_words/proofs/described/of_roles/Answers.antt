use Rattle.std.proofs.Common.{ap, ◌∙◌}
use Rattle.std.proofs.lemmas.Result.{IfOk-weaker}
use Rattle.clap.specs.Words.{App}
use Rattle.command_words.specs.Commands.{role_options}
use Rattle.command_words.specs.Helps.Matched.{with_options}
use Rattle.command_words.proofs.described.of_roles.Goals as goal

pub returns : goal.returns
returns c = IfOk-weaker c.with_roles.result _ _ (λ after is. is ∙ ap (λ (a : App). with_options a role_options) c.in_ok-plain.ensures) c.with_roles.ensures
