use Rattle.std.proofs.Common.{None, Some, refl}
use Rattle.matcher_read.proofs.PieceLemmas.{pieces_cut, pieces_some, column_of_more}
use Rattle.matcher_read.proofs.forms.column_of.Goals as goal

pub returns-in_default : goal.returns-in_default
returns-in_default c = rw (pieces_cut c.args.name.now None c.in_default.ensures.cases) refl

pub returns-in_default-split_once : goal.returns-in_default-split_once
returns-in_default-split_once c =
    rw (pieces_cut c.args.name.now (Some (c.in-Some.first, c.in-Some.column)) c.in-Some.ensures.cases, pieces_cut c.in-Some.column.now (Some c.in_default-split_once.field-0) c.in_default-split_once.ensures.cases)
    (column_of_more c.in-Some.first.now _ _ (pieces_some c.in_default-split_once.field-0.1.now))

pub returns-then-eq : goal.returns-then-eq
returns-then-eq c =
    rw (pieces_cut c.args.name.now (Some (c.in-Some.first, c.in-Some.column)) c.in-Some.ensures.cases, pieces_cut c.in-Some.column.now None c.in-None.ensures.cases, ← c.if-eq.ensures) refl

pub returns : goal.returns
returns c =
    rw (pieces_cut c.args.name.now (Some (c.in-Some.first, c.in-Some.column)) c.in-Some.ensures.cases, pieces_cut c.in-Some.column.now None c.in-None.ensures.cases, ← c.if-eq.ensures) refl
