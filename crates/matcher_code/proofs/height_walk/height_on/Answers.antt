use Rattle.std.proofs.Common.{◌<◌, ◌+◌, Some, length, arith, refl, sym, ap, ◌∙◌}
use Rattle.std.proofs.lemmas.Option.{slice_get_read}
use Rattle.matcher_code.specs.Rules.{height_behind}
use Rattle.matcher_code.specs.declared.op.Op.{Op}
use Rattle.matcher_code.proofs.HeightLemmas.{height_bound, height_next, height_stays_lost}
use Rattle.matcher_code.proofs.height_walk.height_on.Goals as goal

pub height_behind-requires : goal.height_behind-requires
height_behind-requires c =
    let within = c.requires.within in
    let bound = height_bound c.args.ops.now c.loop-at.at c.loop-at.reached (omega (arith, within, c.loop-at-test.true)) c.loop-at.invariant in
    omega (arith, bound, within, c.requires.few, c.loop-at-test.true)

pub returns-in_default : goal.returns-in_default
returns-in_default c =
    let within : c.loop-at.at < length c.args.ops.now = omega (arith, c.requires.within, c.loop-at-test.true) in
    let there = slice_get_read c.args.ops.now (length c.args.ops.now) c.loop-at.at c.index-ops-at.result refl within c.index-ops-at.is in
    let lost = height_next c.args.ops.now c.loop-at.at c.index-ops-at.result there ∙ ap (height_behind c.index-ops-at.result.instruction) c.loop-at.invariant ∙ ap (λ (op : Op). height_behind op.instruction (Some c.loop-at.reached)) c.index-ops-at.is ∙ sym c.height_behind.ensures ∙ c.in_default.is in
    sym (height_stays_lost c.args.ops.now (c.loop-at.at + 1) c.args.to (omega (arith, c.loop-at-test.true)) lost)

pub loop-at-preserved : goal.loop-at-preserved
loop-at-preserved c =
    let within : c.loop-at.at < length c.args.ops.now = omega (arith, c.requires.within, c.loop-at-test.true) in
    let there = slice_get_read c.args.ops.now (length c.args.ops.now) c.loop-at.at c.index-ops-at.result refl within c.index-ops-at.is in
    height_next c.args.ops.now c.loop-at.at c.index-ops-at.result there ∙ ap (height_behind c.index-ops-at.result.instruction) c.loop-at.invariant ∙ ap (λ (op : Op). height_behind op.instruction (Some c.loop-at.reached)) c.index-ops-at.is ∙ sym c.height_behind.ensures ∙ c.in-Some.is
