use Rattle.std.proofs.Common.{◌∷◌, ◌++◌, ◌∙◌, [], List, ℕ, ap, rules, sym}
use Rattle.policy_desk.specs.Helps.Asked.{asked_values}
use Rattle.policy_desk.proofs.drafts.values_of.Goals as goal

pub returns-in_default : goal.returns-in_default
returns-in_default c = c.in_ok-values.ensures ∙ ap (asked_values c.args.role.now) (sym c.in_default.is)
