use Rattle.std.proofs.Common.{sym, ◌∙◌}
use Rattle.matcher_code.proofs.frame.Frame.is_of.Goals as goal

pub returns : goal.returns
returns c = λ is. record {
  request = sym c.request_columns.ensures.value ∙ c.same_columns.ensures c.if-not-same_columns.false;
  policy = sym c.policy_columns.ensures.value ∙ c.same_columns-2.ensures c.if-not-same_columns-2.false;
  relations = sym c.relations.ensures.value ∙ c.same_relations.ensures is ∙ c.deref.ensures.value;
}
