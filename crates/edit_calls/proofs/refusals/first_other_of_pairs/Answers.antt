use Rattle.std.proofs.Common.{refl, arith}
use Rattle.std.proofs.lemmas.Option.{slice_get_read}
use Rattle.edit_calls.proofs.RefusalLemmas.{old-refused, new-refused, pair-passes}
use Rattle.edit_calls.proofs.refusals.first_other_of_pairs.Goals as goal

pub returns-in-Some : goal.returns-in-Some
returns-in-Some c =
    let i = c.loop-pair.pair-index in
    let here = slice_get_read c.args.pairs.now _ i c.pair-item.result refl (omega arith) c.pair-item.is in
    old-refused c.args.columns c.args.pairs.now i _ here _ c.loop-pair.invariant _ (cc)

pub returns-in-Some-other_rule : goal.returns-in-Some-other_rule
returns-in-Some-other_rule c =
    let i = c.loop-pair.pair-index in
    let here = slice_get_read c.args.pairs.now _ i c.pair-item.result refl (omega arith) c.pair-item.is in
    new-refused c.args.columns c.args.pairs.now i _ here _ c.loop-pair.invariant (cc) _ (cc)

pub loop-pair-preserved : goal.loop-pair-preserved
loop-pair-preserved c =
    let i = c.loop-pair.pair-index in
    let here = slice_get_read c.args.pairs.now _ i c.pair-item.result refl (omega arith) c.pair-item.is in
    pair-passes c.args.columns c.args.pairs.now i _ here _ c.loop-pair.invariant (cc) (cc)
