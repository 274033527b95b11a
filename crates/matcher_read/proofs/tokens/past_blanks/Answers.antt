use Rattle.std.proofs.Common.{arith}
use Rattle.matcher_read.proofs.CuttingLemmas.{IsBehind, is_behind}
use Rattle.matcher_read.proofs.tokens.past_blanks.Goals as goal

pub overflow_sub-result : goal.overflow_sub-result
overflow_sub-result c = omega (arith, (is_behind c.args.text.now c.behind_blanks-front.result.now c.behind_blanks-front.ensures).size)

behind : (c : goal.After-front-1) → IsBehind c.args.text.now c.behind_blanks-front.result.now
behind c = is_behind c.args.text.now c.behind_blanks-front.result.now c.behind_blanks-front.ensures

pub returns-clause-front : goal.returns-clause-front
returns-clause-front c = (behind c).rest

pub returns-clause-place : goal.returns-clause-place
returns-clause-place c = omega (arith, (behind c).size)

pub returns-clause-few : goal.returns-clause-few
returns-clause-few c = omega (arith, (behind c).size)
