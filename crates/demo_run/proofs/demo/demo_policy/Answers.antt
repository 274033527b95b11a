use Rattle.std.proofs.Common.{List, ℕ, subst, ◌∙◌}
use Rattle.policy_csv.specs.Policy.{IsPolicy}
use Rattle.demo_run.proofs.demo.demo_policy.Goals as goal

pub returns-in-Ok-clause-policy : goal.returns-in-Ok-clause-policy
returns-in-Ok-clause-policy c = subst (λ (text : List ℕ). IsPolicy c.args.shapes.now text c.in-Ok.tables.policy) (c.as_bytes.ensures.value ∙ c.in_ok-text.ensures) c.in-Ok.ensures.found
