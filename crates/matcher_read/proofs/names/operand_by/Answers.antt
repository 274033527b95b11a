use Rattle.std.proofs.Common.{None, Some, refl}
use Rattle.matcher_read.specs.Helps.TokenLists.{pieces}
use Rattle.matcher_read.proofs.PieceLemmas.{operand_behind, pieces_cut, pieces_some}
use Rattle.matcher_read.proofs.names.operand_by.Goals as goal

pub returns-in_default : goal.returns-in_default
returns-in_default c = rw (pieces_cut c.args.name.now None c.in_default.ensures.cases) c.truth_by.ensures

pub returns : goal.returns
returns c =
    let e = operand_behind c.args.at c.in-Some.first.now (pieces c.in-Some.rest.now) (pieces_some c.in-Some.rest.now) in
    rw (pieces_cut c.args.name.now (Some (c.in-Some.first, c.in-Some.rest)) c.in-Some.ensures.cases, e, ← c.if-eq.ensures, ← c.if-eq-2.ensures) refl
