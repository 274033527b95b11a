use Rattle.std.proofs.Common.{rules}
use Rattle.script_read.proofs.AskLemmas.{asked_front}
use Rattle.script_read.proofs.word.begins_ask.Goals as goal

pub returns-in-97 : goal.returns-in-97
returns-in-97 c = λ begins. asked_front c.as_bytes.result.now c.args.line.now c.as_bytes.ensures.value c.in-97.len_at_least (search rules) (search rules) (search rules) (search rules)
