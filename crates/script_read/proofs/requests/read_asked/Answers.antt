use Rattle.std.proofs.Common.{sym}
use Rattle.std.proofs.lemmas.Result.{IfOk-weaker}
use Rattle.script_read.specs.Said.{reading}
use Rattle.script_read.proofs.ReadLemmas.{request_read-is}
use Rattle.script_read.proofs.requests.read_asked.Goals as goal

pub returns-clause-read : goal.returns-clause-read
returns-clause-read c = IfOk-weaker c.read_line_over.result _ _ (λ line says. sym (request_read-is c.args.asked.json c.args.asked.line.now (reading line) says)) c.read_line_over.ensures.says
