use Rattle.std.proofs.Common.{sym, ◌∙◌}
use Rattle.matcher_code.proofs.frame.Frame.of_model.Goals as goal

pub returns : goal.returns
returns c = record {
  request = sym (c.in_ok-request.ensures ∙ c.request_columns.ensures.value);
  policy = sym (c.in_ok-policy.ensures ∙ c.policy_columns.ensures.value);
  relations = sym (c.in_ok-relations.ensures.items ∙ c.relations.ensures.value);
}
