use Rattle.std.proofs.Common.{ap, ◌∙◌}
use Rattle.policy_desk.proofs.publishes.take_all.Goals as goal

pub returns-clause-taken : goal.returns-clause-taken
returns-clause-taken c = ap (λ edits. edits.items) c.replace.ensures.value

pub returns-clause-none : goal.returns-clause-none
returns-clause-none c = ap (λ edits. edits.items) c.replace.ensures.after ∙ c.new.ensures.items
