use Rattle.std.proofs.Common.{sym, ◌∙◌}
use Rattle.policy_index.proofs.FilterLemmas.{text_closed, text_open}
use Rattle.policy_index.proofs.filters.hash_value.Goals as goal

pub returns-then-is_empty : goal.returns-then-is_empty
returns-then-is_empty c = λ texts key. text_open c.args.hash texts c.args.value.now (sym c.is_empty.ensures ∙ c.if-is_empty.true) key

pub returns : goal.returns
returns c = λ texts key. text_closed c.hash_with.result texts c.args.value.now (sym c.is_empty.ensures ∙ c.if-is_empty.false) (c.hash_with.ensures.more texts key)
