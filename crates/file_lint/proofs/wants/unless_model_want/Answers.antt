use Rattle.std.proofs.Common.{sym, ◌∙◌}
use Rattle.file_lint.proofs.WantLemmas.{no_model_want}
use Rattle.file_lint.proofs.wants.unless_model_want.Goals as goal

pub returns : goal.returns
returns c = no_model_want c.args.fault (sym c.is_model_want.ensures ∙ c.if-is_model_want.false)
