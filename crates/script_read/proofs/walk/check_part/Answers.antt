use Rattle.std.proofs.Common.{◌≡◌, ◌+◌, Err, sym, ◌∙◌, rules}
use Rattle.script_read.proofs.WalkLemmas.{asked_is}
use Rattle.script_read.specs.Readings.{request_read}
use Rattle.script_read.specs.Lines.{arguments_of}
use Rattle.script_read.specs.Said.{asks, seen}
use Rattle.text_parts.specs.Full.{full_lines}
use Rattle.text_parts.specs.Numbered.{line}
use Rattle.script_read.proofs.walk.check_part.Goals as goal

pub returns-then-is_ask : goal.returns-then-is_ask
returns-then-is_ask c = (asks (request_read c.args.json (arguments_of c.args.line.now)), asked_is c.args.json (line c.args.number c.args.line.now) (full_lines (c.args.number + 1) c.args.after.now) (sym c.is_ask.ensures ∙ c.if-is_ask.true))

pub returns-in_err-item : goal.returns-in_err-item
returns-in_err-item c =
    let stop : c.from_residual.result ≡ Err c.in_err-item.field-0.0 = search rules in
    rw stop c.in_err-item.ensures

pub returns : goal.returns
returns c = (seen c.in_ok-item.item, c.in_ok-item.ensures)
