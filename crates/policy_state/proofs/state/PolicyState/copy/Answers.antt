use Rattle.std.proofs.Common.{rules}
use Rattle.policy_state.proofs.CopyLemmas.{sections_again}
use Rattle.policy_state.proofs.state.PolicyState.copy.Goals as goal

pub invariant_of-result : goal.invariant_of-result
invariant_of-result c = record {
  valid = search rules;
  sound = search rules;
  grown = search rules;
  below = search rules;
  index = search rules;
  sections =
      sections_again c.self.inside.shapes c.in_ok-shapes.shapes c.self.inside.tables.policy c.in_ok-tables.tables.policy c.self.inside.sections c.in_ok-sections.sections c.in_ok-shapes.ensures c.in_ok-tables.ensures.policy c.in_ok-sections.ensures
      c.self.invariant.sections;
}
