use Rattle.std.proofs.Common.{ap, sym, ◌∙◌}
use Rattle.std.proofs.lemmas.Result.{IfOk-weaker}
use Rattle.script_read.specs.Readings.{request_read}
use Rattle.script_read.specs.Said.{reading}
use Rattle.script_read.proofs.ReadLemmas.{request_read-is}
use Rattle.script_read.proofs.requests.read_text.Goals as goal

pub returns-clause-read : goal.returns-clause-read
returns-clause-read c = IfOk-weaker c.read_line_over.result _ _
    (λ asked says. sym (ap (request_read c.args.text.now.json) (sym c.as_str.ensures) ∙ request_read-is c.args.text.now.json c.as_str.result.now (reading asked) says))
    c.read_line_over.ensures.says
