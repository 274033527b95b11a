use Rattle.std.proofs.Common.{◌≡◌, Err, rules}
use Rattle.script_read.specs.Said.{seen}
use Rattle.script_read.proofs.GivesLemmas.{alone_fails, alone_none}
use Rattle.script_read.proofs.line_item.alone_item.Goals as goal

pub returns-in_err-alone : goal.returns-in_err-alone
returns-in_err-alone c =
    let stop : c.from_residual.result ≡ Err c.in_err-alone.field-0.0 = search rules in
    rw stop (alone_fails c.args.number (tt {0}) (seen c.args.item) c.in_err-alone.field-0.0 c.args.arguments.now c.in_err-alone.ensures)

pub returns : goal.returns
returns c = alone_none c.args.number (seen c.args.item) c.args.arguments.now c.in_ok-alone.ensures
