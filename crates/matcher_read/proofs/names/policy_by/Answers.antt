use Rattle.std.proofs.Common.{None, Some, ap}
use Rattle.matcher_read.proofs.PieceLemmas.{pieces_cut, pieces_some, policy_of_more}
use Rattle.matcher_read.proofs.names.policy_by.Goals as goal

pub returns-in_default : goal.returns-in_default
returns-in_default c = rw (pieces_cut c.args.names.now (Some c.in_default.field-0) c.in_default.ensures.cases) (policy_of_more c.args.at _ _ (pieces_some c.in_default.field-0.1.now))

pub returns : goal.returns
returns c = rw (pieces_cut c.args.names.now None c.in-None.ensures.cases) (ap (λ e. Some e) c.in_ok-policy.ensures)
