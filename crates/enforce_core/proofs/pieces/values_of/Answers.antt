use Rattle.std.proofs.Common.{◌≡◌, [], Err, arith, rules}
use Rattle.std.proofs.lemmas.List.{nil_from_length}
use Rattle.enforce_core.proofs.PieceLemmas.{cut_all, cut_bad, cut_below, cut_next, cut_none, cut_past, cut_rises}
use Rattle.enforce_core.proofs.pieces.values_of.Goals as goal

pub loop-place-init : goal.loop-place-init
loop-place-init c = record { cut = cut_none c.args.bytes.now c.args.ends.now c.new-values.result.items c.new-values.ensures.items; few = omega (arith, c.requires) }

-- an end that is out of order
pub returns-then-place-from-clause-stopped : goal.returns-then-place-from-clause-stopped
returns-then-place-from-clause-stopped c =
    cut_below c.args.bytes.now c.args.ends.now c.loop-place.rest.now c.in-Some.behind.now c.loop-place.number c.loop-place.from c.in-Some.place.now c.loop-place.values.items c.loop-place.invariant.cut c.in-Some.ensures.cases.0 (omega arith)

pub returns-then-place-bytes-clause-stopped : goal.returns-then-place-bytes-clause-stopped
returns-then-place-bytes-clause-stopped c =
    cut_past c.args.bytes.now c.args.ends.now c.loop-place.rest.now c.in-Some.behind.now c.loop-place.number c.loop-place.from c.in-Some.place.now c.loop-place.values.items c.loop-place.invariant.cut c.in-Some.ensures.cases.0 (omega arith)

-- a piece that is no text
pub returns-in_err-push_text-clause-stopped : goal.returns-in_err-push_text-clause-stopped
returns-in_err-push_text-clause-stopped c =
    let stop : c.from_residual.result ≡ Err c.in_err-push_text.field-0.0 = search rules in
    rw stop (cut_bad c.args.bytes.now c.args.ends.now c.loop-place.rest.now c.in-Some.behind.now c.loop-place.number c.loop-place.from c.in-Some.place.now c.loop-place.values.items c.loop-place.invariant.cut c.in-Some.ensures.cases.0
    c.piece.result.now c.piece.ensures c.in_err-push_text.field-0.0 c.in_err-push_text.ensures.stopped)

pub loop-place-preserved : goal.loop-place-preserved
loop-place-preserved c = record {
  cut = cut_next c.args.bytes.now c.args.ends.now c.loop-place.rest.now c.in-Some.behind.now c.loop-place.number c.loop-place.from c.in-Some.place.now c.loop-place.values.items c.loop-place.invariant.cut c.in-Some.ensures.cases.0
      c.push_text.new.values.items c.piece.result.now (omega arith) (omega arith) c.piece.ensures c.in_ok-push_text.ensures.pushed;
  few = omega (arith, c.loop-place.invariant.few, c.in-Some.ensures.cases.1);
}

pub returns-clause-found : goal.returns-clause-found
returns-clause-found c =
    let none : c.loop-place.rest.now ≡ [] = nil_from_length c.loop-place.rest.now c.in_default.ensures.cases in (
      cut_rises c.args.bytes.now c.args.ends.now c.loop-place.rest.now c.loop-place.number c.loop-place.from c.loop-place.values.items c.loop-place.invariant.cut none,
      cut_all c.args.bytes.now c.args.ends.now c.loop-place.rest.now c.loop-place.number c.loop-place.from c.loop-place.values.items c.loop-place.invariant.cut none,
    )

pub returns-clause-few : goal.returns-clause-few
returns-clause-few c = omega (arith, c.loop-place.invariant.cut.count, c.loop-place.invariant.few)
