use Rattle.std.proofs.Common.{◌∙◌}
use Rattle.policy_query.proofs.named.text_of.Goals as goal

pub returns : goal.returns
returns c = c.in_ok-copy.ensures ∙ c.in-Ok.ensures.cases.0
