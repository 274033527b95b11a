use Rattle.std.proofs.Common.{[]}
use Rattle.model_conf.proofs.OpenLemmas.{drop_first, none_open}
use Rattle.model_conf.proofs.joined_lines.drop_all_open.Goals as goal

pub loop-preserved : goal.loop-preserved
loop-preserved c = λ whole is. c.loop.invariant whole (drop_first _ _ whole _ c.loop-test.true c.drop_open.ensures is)

pub returns : goal.returns
returns c = c.loop.invariant _ (none_open _ _ _ [] c.loop-test.false c.drop_open.ensures)
