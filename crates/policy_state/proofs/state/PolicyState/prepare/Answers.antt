use Rattle.std.proofs.Common.{List, subst, sym}
use Rattle.policy_state.specs.Ready.{AreReady}
use Rattle.policy_table.specs.declared.change.Change.{Change}
use Rattle.policy_state.proofs.state.PolicyState.prepare.Goals as goal

pub returns-clause-ready : goal.returns-clause-ready
returns-clause-ready c = subst (λ (l : List (List Change)). AreReady c.prepare_parts.new.self l c.in_ok-parts.parts) (sym c.in_ok-edits.ensures) c.in_ok-parts.ensures.ready
