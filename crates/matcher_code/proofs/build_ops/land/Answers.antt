use Rattle.std.proofs.Common.{rules, ◌≡◌, ◌<◌, length, get_or, set, sym, ap, ◌∙◌}
use Rattle.std.proofs.lemmas.List.Edits.{map_over_more}
use Rattle.matcher_code.specs.Helps.Targets.{landed}
use Rattle.matcher_code.specs.declared.op.Op.{Op}
use Rattle.matcher_code.proofs.build_ops.land.Goals as goal

pub loop-op-preserved : goal.loop-op-preserved
loop-op-preserved c =
    let within : c.loop-op.op-index < length c.args.ops.now = search rules in
    let read : c.op-item.result ≡ get_or c.loop-op.ops c.loop-op.op-index c.op-item.result = search rules in
    ap (λ (op : Op). set c.loop-op.ops c.loop-op.op-index op) (c.land_one.ensures ∙ ap (landed c.args.to) (sym read))
    ∙ map_over_more (landed c.args.to) c.args.ops.now c.loop-op.ops c.loop-op.op-index c.op-item.result within c.loop-op.invariant read
