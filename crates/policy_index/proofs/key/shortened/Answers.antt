use Rattle.std.proofs.Common.{arith, sym}
use Rattle.std.proofs.lemmas.List.{length-take-le}
use Rattle.policy_index.proofs.HashLemmas.{short_few}
use Rattle.policy_index.proofs.key.shortened.Goals as goal

pub slice_bounds-result-end : goal.slice_bounds-result-end
slice_bounds-result-end c = sym (length-take-le 255 c.args.text.now (omega (arith, c.if-text-le-MOST_FRONT.false)))

pub returns-clause-few : goal.returns-clause-few
returns-clause-few c = short_few 255 c.args.text.now
