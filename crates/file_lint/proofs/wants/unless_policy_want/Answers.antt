use Rattle.std.proofs.Common.{sym, ◌∙◌}
use Rattle.file_lint.proofs.WantLemmas.{no_policy_want}
use Rattle.file_lint.proofs.wants.unless_policy_want.Goals as goal

pub returns : goal.returns
returns c = no_policy_want c.args.fault (sym c.is_policy_want.ensures ∙ c.if-is_policy_want.false)
