use Rattle.std.proofs.Common.{arith}
use Rattle.decision.proofs.NameLemmas.{asked_with, few_asked, many_asked}
use Rattle.decision.proofs.parts.are_asked.Goals as goal

pub returns-then-trees-lt2 : goal.returns-then-trees-lt2
returns-then-trees-lt2 c = few_asked c.args.trees.now (omega (arith, c.if-trees-lt2.true))

pub returns-then-trees-gt3 : goal.returns-then-trees-gt3
returns-then-trees-gt3 c = many_asked c.args.trees.now (omega (arith, c.if-trees-gt3.true))

pub returns : goal.returns
returns c = asked_with c.args.trees.now c.are_names.result (omega (arith, c.if-trees-lt2.false)) (omega (arith, c.if-trees-gt3.false)) c.are_names.ensures
