use Rattle.std.proofs.Common.{◌≡◌, Err, rules}
use Rattle.script_read.proofs.GivesLemmas.{alone_fails, alone_none}
use Rattle.script_read.proofs.block.plain.Goals as goal

pub returns-in_err-alone : goal.returns-in_err-alone
returns-in_err-alone c =
    let stop : c.from_residual.result ≡ Err c.in_err-alone.field-0.0 = search rules in
    rw (c.in-Some.is, stop) (alone_fails c.args.number (tt {0}) c.in-Some.kind c.in_err-alone.field-0.0 c.args.own.now c.in_err-alone.ensures)

pub returns : goal.returns
returns c = rw c.in-Some.is (alone_none c.args.number c.in-Some.kind c.args.own.now c.in_ok-alone.ensures)
