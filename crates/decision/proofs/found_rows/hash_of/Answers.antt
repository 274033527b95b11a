use Rattle.std.proofs.Common.{None, ap, arith, map, sym, subst, List}
use Rattle.std.proofs.lemmas.List.{get_or_default, take_all}
use Rattle.perm_value.specs.Seen.{datum, datum_of_view}
use Rattle.decision.specs.Helps.KeptPlans.{pair_seen}
use Rattle.decision.specs.declared.plan.EqualColumns.{EqualColumns}
use Rattle.decision.proofs.GatherLemmas.{SoFar, no_text_next, so_far_next, so_far_none}
use Rattle.decision.proofs.found_rows.hash_of.Goals as goal

pub loop-pair-init : goal.loop-pair-init
loop-pair-init c = so_far_none (map datum c.args.request.now) c.start_hash-hash.result c.start_hash-hash.ensures.none

pub loop-pair-preserved : goal.loop-pair-preserved
loop-pair-preserved c =
    let default : EqualColumns = record { request = None; policy = 0 } in
    so_far_next (map datum c.args.request.now) c.args.pairs.now c.loop-pair.pair-index default _ c.loop-pair.hash c.hash_with-hash.result (datum_of_view c.in-Some.value) c.in-Some-text_of.text.now c.loop-pair-test.true
    (sym c.in-Some.ensures) (ap (λ (p : EqualColumns). p.request) (get_or_default c.args.pairs.now c.loop-pair.pair-index _ default c.loop-pair-test.true)) (sym c.in-Some-text_of.ensures)
    c.hash_with-hash.ensures.more c.loop-pair.invariant

pub returns-in_default-text_of : goal.returns-in_default-text_of
returns-in_default-text_of c =
    let default : EqualColumns = record { request = None; policy = 0 } in
    no_text_next (map datum c.args.request.now) c.args.pairs.now c.loop-pair.pair-index default _ (datum_of_view c.in-Some.value) c.loop-pair-test.true
    (sym c.in-Some.ensures) (ap (λ (p : EqualColumns). p.request) (get_or_default c.args.pairs.now c.loop-pair.pair-index _ default c.loop-pair-test.true)) (sym c.in_default-text_of.ensures)

pub returns : goal.returns
returns c =
    let all : SoFar (map datum c.args.request.now) (map pair_seen c.args.pairs.now) c.loop-pair.hash =
    subst (λ (l : List EqualColumns). SoFar (map datum c.args.request.now) (map pair_seen l) c.loop-pair.hash) (take_all c.loop-pair.pair-index c.args.pairs.now (omega (arith, c.loop-pair-test.false))) c.loop-pair.invariant in
    (all.texts, all.are, all.key)
