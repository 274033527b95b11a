use Rattle.script_read.proofs.AskLemmas.{asked_test}
use Rattle.script_read.proofs.walk.is_ask.Goals as goal

pub returns-then-begins_ask : goal.returns-then-begins_ask
returns-then-begins_ask c = asked_test c.args.line.now (c.begins_ask.ensures c.if-begins_ask.true)
