use Rattle.std.proofs.Common.{None, Some}
use Rattle.matcher_read.proofs.PieceLemmas.{pieces_cut}
use Rattle.matcher_read.proofs.names.request_by.Goals as goal

pub returns-in_default : goal.returns-in_default
returns-in_default c = rw (pieces_cut c.args.names.now None c.in_default.ensures.cases) (rw c.new.ensures.items at c.request.ensures)

pub returns : goal.returns
returns c = rw (pieces_cut c.args.names.now (Some (c.in-Some.column, c.in-Some.attributes)) c.in-Some.ensures.cases) (rw c.in_ok-path.ensures at c.request-2.ensures)
